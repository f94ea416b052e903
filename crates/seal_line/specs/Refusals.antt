-- The refusals of cbfsseal, and its exit status.
use Rattle.std.specs.Prelude.{ℕ, List, [], Option, Some, None, Result, Ok, Err}
use Rattle.std.specs.Option.{option_map_or}
use Rattle.std.specs.declared.io.ErrorKind.{ErrorKind}
use Rattle.std.specs.declared.io.ErrorKind.TheVariants.{OutOfMemory}
use Rattle.flash_store.specs.declared.open_fault.OpenFault.{OpenFault}
use Rattle.flash_store.specs.declared.open_fault.OpenFault.TheVariants as open_fault
use Rattle.cbfs_anchor.specs.ComponentNames.{name_at}
use Rattle.cbfs_anchor.specs.declared.fault.SealFault.{SealFault}
use Rattle.cbfs_anchor.specs.declared.fault.SealFault.TheVariants as faults
use Rattle.seal_line.specs.declared.refusal.Refusal.{Refusal}
use Rattle.seal_line.specs.declared.refusal.Refusal.TheVariants.{Usage, Memory, TooLarge, Seal}

-- an image that can't be opened is a device fault, unless size or memory is the cause
abbrev pub opening_refusal : OpenFault → Refusal
opening_refusal (open_fault.Failed kind) = Seal faults.Device
opening_refusal open_fault.TooLarge = TooLarge
opening_refusal open_fault.Memory = Memory

-- arguments that can't be read
abbrev pub words_refusal : ErrorKind → Refusal
words_refusal OutOfMemory = Memory
words_refusal kind = Usage

-- 2 for a bad command line
abbrev pub exit_status : Result (Unit {0}) Refusal → ℕ
exit_status (Ok done) = 0
exit_status (Err Usage) = 2
exit_status (Err refusal) = 1

-- the component that a fault concerns
abbrev pub component_of : SealFault → Option ℕ
component_of (faults.TooLong at) = Some at
component_of (faults.HashedBootblock at) = Some at
component_of (faults.Unhashed at) = Some at
component_of fault = None

-- the name at its position; no bytes if the fault concerns no component
abbrev pub name_of_component : SealFault → List ℕ → List ℕ
name_of_component fault image = option_map_or (λ at. name_at at image) (component_of fault) []
