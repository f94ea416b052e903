use Rattle.std.proofs.Common.{◌*◌, ◌∙◌, ◌++◌, length, sym, arith}
use Rattle.check_changes.specs.Areas.{area_changes_in}
use Rattle.check_changes.proofs.AreaLemmas.ChangeSteps.{changes_in-more}
use Rattle.check_changes.proofs.ImageLemmas.{both-then, both-within, lengths-same}
use Rattle.check_changes.proofs.areas.areas.push_changes.Goals as goal

pub returns-in_err-push_entry_changes-clause-calls : goal.returns-in_err-push_entry_changes-clause-calls
returns-in_err-push_entry_changes-clause-calls g c = grind arith

pub returns-clause-calls : goal.returns-clause-calls
returns-clause-calls g c = grind arith

pub returns-in_err-push_content_changes-clause-calls : goal.returns-in_err-push_content_changes-clause-calls
returns-in_err-push_content_changes-clause-calls g c = grind arith

pub loop-pair-preserved : goal.loop-pair-preserved
loop-pair-preserved g c =
    let had = c.loop-pair.invariant in
    let done = c.in_ok-push_content_changes.ensures in
    record {
      within = omega (arith, had.within, done.left);
      lens = had.lens ∙ sym (lengths-same done.calls);
      read = both-within _ _ (omega (arith, had.within, done.left)) (omega (arith, had.within, done.left)) (both-then had.read done.calls);
      changes = changes_in-more c.args.holders.now.pairs.now _ _ _ (λ x y. c.args.changes.now.items ++ area_changes_in x y c.args.holders.now.pairs.now (8 * length y) c.args.holders.now.pairs.now) c.loop-pair-test.true had.read had.changes c.in_ok-push_entry_changes.ensures done.left done.changes;
    }
