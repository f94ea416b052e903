use Rattle.std.proofs.Common.{◌∙◌, ap, sym}
use Rattle.std.proofs.lemmas.List.Sorted.{list_any-IsPermutation}
use Rattle.check_changes.specs.Areas.{has_block}
use Rattle.check_changes.specs.Holders.{holders_have, ranges_of}
use Rattle.check_changes.proofs.areas.holders.BlockHolders.of.Goals as goal

pub invariant_of-result : goal.invariant_of-result
invariant_of-result c = record {
  small = c.requires;
  found = λ outer number.
      c.in_ok-groups.ensures outer number
      ∙ ap (holders_have outer number) c.deref.ensures.value
      ∙ sym (list_any-IsPermutation (λ h. has_block outer number (ranges_of h)) c.in_ok-all.all.items c.sort_by_key.new.self.items c.in_ok-sort_by_key.ensures.permutation)
      ∙ c.in_ok-all.ensures outer number;
}
