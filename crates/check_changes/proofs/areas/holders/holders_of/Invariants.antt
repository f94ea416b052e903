use Rattle.std.proofs.Common.{◌≡◌, ℕ, ◌||◌, drop}
use Rattle.check_changes.specs.Areas.{is_held}
use Rattle.check_changes.specs.Holders.{holders_have}
use Rattle.check_changes.specs.declared.images.Both.{Both}
use Rattle.flash_device.specs.Regions.{Range}
use Rattle.check_changes.proofs.areas.holders.holders_of.Given as goal

abbrev pub invariant-loop-pair : goal.invariant-loop-pair
invariant-loop-pair l = (outer : Both Range) (number : ℕ) →
    (holders_have outer number l.holders.items || is_held l.lens (drop l.pair-index l.pairs) outer number)
    ≡ is_held l.lens l.pairs outer number
