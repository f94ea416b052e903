-- The shape of a region.
use Rattle.std.specs.Prelude.{ℕ, Bool, not, is_some, ◌||◌, ◌&&◌, ◌%◌, List, length, Option, Some, None, ◌==◌, if◌then◌else◌}
use Rattle.flash_format.specs.Entry.{front}
use Rattle.cbfs_walk.specs.declared.walk.WalkFault.{WalkFault}
use Rattle.cbfs_walk.specs.declared.walk.WalkFault.TheVariants as faults

abbrev pub has_bad_size : ℕ → Bool
has_bad_size size = size == 0 || not (size % 64 == 0)

-- an invalid size, or no entry at the region's start
abbrev pub shape_fault_at : List ℕ → ℕ → Option WalkFault
shape_fault_at x at = if has_bad_size (length x) then Some faults.RegionShape
    else if at == 0 && not (is_some (front x)) then Some faults.NotCbfs else None

abbrev pub shape_fault : List ℕ → Option WalkFault
shape_fault x = shape_fault_at x 0
