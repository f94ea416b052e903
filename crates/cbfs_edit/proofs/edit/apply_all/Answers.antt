use Rattle.std.proofs.Common.{arith, rules}
use Rattle.cbfs_edit.proofs.EditLists.{applied_more, applied_none, applied_all}
use Rattle.cbfs_edit.proofs.edit.apply_all.Goals as goal

pub loop-i-preserved : goal.loop-i-preserved
loop-i-preserved g c = search (rules, applied_more {F = g.row.F.Denot} g.S.Source.facts)

pub loop-i-init : goal.loop-i-init
loop-i-init g c = applied_none g.S.Source.facts c.args.region c.args.edits.now c.args.replies.now c.args.paged.now c.requires.same_length

pub returns : goal.returns
returns g c =
    let all = applied_all g.S.Source.facts _ _ _ _ _ _ _ c.loop-i.invariant (omega arith) in
    record { after = all.0; run = all.1 }
