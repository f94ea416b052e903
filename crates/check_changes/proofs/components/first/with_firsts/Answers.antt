use Rattle.std.proofs.Common.{◌-◌, arith}
use Rattle.check_changes.proofs.ComponentLemmas.FirstLemmas.{notes-more, notes-none}
use Rattle.check_changes.proofs.components.first.with_firsts.Goals as goal

pub loop-left-init : goal.loop-left-init
loop-left-init c = record {
  inside = omega arith;
  notes = notes-none c.in_ok-first.first c.args.all.now c.in_ok-first.ensures.empty;
}

pub loop-left-preserved : goal.loop-left-preserved
loop-left-preserved c =
    let had = c.loop-left.invariant in
    record {
      inside = omega (arith, had.inside);
      notes = notes-more c.loop-left.first c.insert.new.self c.args.all.now c.loop-left.left (c.loop-left.left - 1) _ (omega arith) had.inside c.index-all-left.is (rw c.as_slice.ensures at c.in_ok-insert.ensures.updates) had.notes;
    }
