use Rattle.std.proofs.Common.{rules}
use Rattle.std.proofs.lemmas.List.Sorted.{IsNonDecreasingBy-from_sort_by_key}
use Rattle.check_changes.specs.Holders.{start_of}
use Rattle.check_changes.proofs.areas.holders.Group.of.Goals as goal

pub invariant_of-result : goal.invariant_of-result
invariant_of-result c = record {
  sorted = IsNonDecreasingBy-from_sort_by_key start_of _ c.in_ok-sort_by_key.ensures.sorted (λ a r q k. search rules);
  reached = rw c.deref.ensures.value at c.in_ok-reaches.ensures.1;
  all = rw c.deref.ensures.value at c.in_ok-reaches.ensures.0;
  sizes = rw c.deref-2.ensures.value at c.smallest_of-smallest.ensures;
}
