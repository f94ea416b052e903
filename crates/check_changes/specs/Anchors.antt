-- The change of an anchor.
use Rattle.std.specs.Prelude.{◌==◌, not, Option, Some, None}
use Rattle.std.specs.Bool.{then_some}
use Rattle.cbfs_anchor.specs.Algorithms.{number_of}
use Rattle.cbfs_anchor.specs.declared.anchor.Anchor.{Anchor}
use Rattle.check_changes.specs.declared.anchor.AnchorChange.{AnchorChange}
use Rattle.check_changes.specs.declared.anchor.AnchorChange.TheVariants.{Added, AlgorithmFrom, Gone}

-- from the old anchor to the new one
abbrev pub anchor_change : Option Anchor → Option Anchor → Option AnchorChange
anchor_change None None = None
anchor_change None (Some new) = Some Added
anchor_change (Some old) None = Some Gone
anchor_change (Some old) (Some new) = then_some
    (not (number_of old.algorithm == number_of new.algorithm)) (AlgorithmFrom old.algorithm)
