use Rattle.std.proofs.Common.{◌≡◌, ℕ, ◌||◌, length}
use Rattle.std.specs.List.{list_any}
use Rattle.check_changes.specs.Holders.{holders_have}
use Rattle.check_changes.specs.declared.images.Both.{Both}
use Rattle.flash_device.specs.Regions.{Range}
use Rattle.check_changes.proofs.areas.holders.groups_of.Given as goal

abbrev pub invariant-loop-rest : goal.invariant-loop-rest
invariant-loop-rest l = (outer : Both Range) (number : ℕ) →
    (list_any (λ group. holders_have outer number group.holders.items) l.groups.items
    || holders_have outer number l.rest) ≡ holders_have outer number l.all

abbrev pub decreases-loop-rest : goal.decreases-loop-rest
decreases-loop-rest l = length l.rest
