-- Errors of the anchor.
use Rattle.std.specs.Prelude.{ℕ, Result, Ok, Err}
use Rattle.flash_map.specs.declared.search.StoreFault.{StoreFault}
use Rattle.flash_map.specs.declared.search.StoreFault.TheVariants as store
use Rattle.cbfs_walk.specs.declared.walk.WalkFault.{WalkFault}
use Rattle.cbfs_walk.specs.declared.walk.WalkFault.TheVariants as walk
use Rattle.cbfs_anchor.specs.declared.fault.SealFault.{SealFault}
use Rattle.cbfs_anchor.specs.declared.fault.SealFault.TheVariants as faults

-- the number of failed calls
abbrev pub by_device : SealFault → ℕ
by_device faults.Device = 1
by_device _ = 0

abbrev pub store_fault : StoreFault → SealFault
store_fault store.Device = faults.Device
store_fault store.NoFmap = faults.NoFmap
store_fault store.NoRegion = faults.NoRegion
store_fault store.RegionOutside = faults.RegionOutside

abbrev pub walk_fault : WalkFault → SealFault
walk_fault walk.Device = faults.Device
walk_fault walk.RegionShape = faults.RegionShape
walk_fault walk.NotCbfs = faults.NotCbfs
walk_fault (walk.Damaged at kind) = faults.Damaged at kind

-- the next step after a success
abbrev pub and_then : {T U : Type 0} → Result T SealFault → (T → Result U SealFault)
    → Result U SealFault
and_then (Ok value) next = next value
and_then (Err fault) next = Err fault
