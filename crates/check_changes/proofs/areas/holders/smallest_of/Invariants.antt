use Rattle.std.proofs.Common.{ℕ, ◌<◌, ◌≤◌}
use Rattle.std.specs.Prelude.{slice_index_or}
use Rattle.check_changes.specs.declared.areas.holders.Holder.{Holder}
use Rattle.check_changes.proofs.areas.holders.smallest_of.Given as goal

abbrev pub invariant-loop-holder : goal.invariant-loop-holder
invariant-loop-holder l = (i : ℕ) (d : Holder) → i < l.holder-index → l.smallest ≤ (slice_index_or l.holders i d).size
