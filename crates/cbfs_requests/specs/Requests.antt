-- The request of each command, and errors of the lower layers as errors of a command.
use Rattle.std.specs.Prelude.{ℕ, ◌⊎◌, Bool, List, map, Result, Ok, Err, IsErrOf}
use Rattle.flash_map.specs.declared.search.StoreFault.{StoreFault}
use Rattle.flash_map.specs.declared.search.StoreFault.TheVariants as store
use Rattle.flash_device.specs.declared.paged.CopyFault.{CopyFault}
use Rattle.flash_device.specs.declared.paged.CopyFault.TheVariants as copy
use Rattle.cbfs_edit.specs.declared.fault.EditFault.{EditFault}
use Rattle.cbfs_edit.specs.declared.fault.EditFault.TheVariants as edit
use Rattle.cbfs_edit.specs.declared.addition.HashChoice.{HashChoice}
use Rattle.cbfs_edit.specs.declared.place.Spot.{Spot}
use Rattle.cbfs_requests.specs.declared.refusal.Refusal.{Refusal}
use Rattle.cbfs_requests.specs.declared.refusal.Refusal.TheVariants as refusals
use Rattle.cbfs_requests.specs.declared.refusal.Refusal.TheVariants.{Device, Output, Source}
use Rattle.cbfs_requests.specs.declared.command.Command.{Command}
use Rattle.cbfs_requests.specs.declared.command.Command.TheVariants.{Print, Layout, Extract, Add}
use Rattle.cbfs_requests.specs.declared.command.Command.TheVariants.{Create, Read, Remove, Write}

-- a request on a region
pub data Task : Type 0 where
  print : Bool → Task
  extract : List ℕ → Task
  add : List ℕ → ℕ → HashChoice → Spot → Task
  remove : List ℕ → Task
  read : Task
  write : Task

-- a request on a named region, or on the whole image
pub data Request : Type 0 where
  on_region : List ℕ → Task → Request
  layout : Request
  create : List (List ℕ) → Request

abbrev pub request_of : Command → Request
request_of (Print region verbose) = on_region region.now (print verbose)
request_of Layout = layout
request_of (Extract region name) = on_region region.now (extract name.now)
request_of (Add region name kind hash spot) = on_region region.now (add name.now kind hash spot)
request_of (Remove region name) = on_region region.now (remove name.now)
request_of (Read region) = on_region region.now read
request_of (Write region) = on_region region.now write
request_of (Create regions) = create (map (λ name. name.now) regions.items)

abbrev pub store_refusal : StoreFault → Refusal
store_refusal store.Device = refusals.Device
store_refusal store.NoFmap = refusals.NoFmap
store_refusal store.NoRegion = refusals.NoRegion
store_refusal store.RegionOutside = refusals.RegionOutside

abbrev pub copy_refusal : CopyFault → Refusal
copy_refusal copy.Device = refusals.Device
copy_refusal copy.Output = refusals.Output
copy_refusal copy.Source = refusals.Source

abbrev pub edit_refusal : EditFault → Refusal
edit_refusal edit.Device = refusals.Device
edit_refusal edit.Source = refusals.Source
edit_refusal edit.RegionShape = refusals.RegionShape
edit_refusal edit.NotCbfs = refusals.NotCbfs
edit_refusal (edit.Damaged at kind) = refusals.Damaged at kind
edit_refusal edit.NotFound = refusals.NotFound
edit_refusal edit.Exists = refusals.Exists
edit_refusal edit.NoSpace = refusals.NoSpace
edit_refusal edit.BadName = refusals.BadName
edit_refusal edit.BadType = refusals.BadType
edit_refusal edit.BadAlign = refusals.BadAlign

-- the answer for the fault, or for the value
abbrev pub fault_or : {T E A : Type 0} → (E → A) → Result T E → (T → A) → A
fault_or refuse (Err fault) next = refuse fault
fault_or refuse (Ok value) next = next value

-- the number of failed device calls that an error reports
abbrev pub by_device : Refusal → ℕ
by_device refusals.Device = 1
by_device _ = 0

abbrev pub by_source : Refusal → ℕ
by_source refusals.Source = 1
by_source _ = 0

-- an error that reports a fault of the device, the output or the source
abbrev pub IsFault : {T : Type 0} → Result T Refusal → Type 0
IsFault answer = IsErrOf answer Device ⊎ IsErrOf answer Output ⊎ IsErrOf answer Source
