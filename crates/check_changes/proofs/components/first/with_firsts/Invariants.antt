use Rattle.std.specs.Prelude.{◌≤◌, length, drop}
use Rattle.check_changes.specs.Components.{HasFirstComponents}
use Rattle.check_changes.proofs.components.first.with_firsts.Given as goal

abbrev pub invariant-loop-left : goal.invariant-loop-left
invariant-loop-left l = record {
  inside : l.left ≤ length l.all;
  notes : HasFirstComponents l.first (drop l.left l.all);
}

abbrev pub decreases-loop-left : goal.decreases-loop-left
decreases-loop-left l = l.left
