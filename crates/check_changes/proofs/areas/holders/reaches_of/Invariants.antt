use Rattle.std.proofs.Common.{◌≡◌, ℕ, ◌<◌, ◌≤◌, length}
use Rattle.std.specs.Prelude.{slice_index_or}
use Rattle.check_changes.specs.Holders.{end_of}
use Rattle.check_changes.specs.declared.areas.holders.Holder.{Holder}
use Rattle.check_changes.proofs.areas.holders.reaches_of.Given as goal

abbrev pub invariant-loop-holder : goal.invariant-loop-holder
invariant-loop-holder l = record {
  all : length l.reaches.items ≡ l.holder-index;
  reached : (i k : ℕ) (d : Holder) → i ≤ k → k < l.holder-index → end_of (slice_index_or l.holders i d) ≤ slice_index_or l.reaches.items k 0;
  reach : (i : ℕ) (d : Holder) → i < l.holder-index → end_of (slice_index_or l.holders i d) ≤ l.reach;
}
