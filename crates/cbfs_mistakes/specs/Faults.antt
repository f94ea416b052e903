-- Faults of listing names.
use Rattle.std.specs.Prelude.{ℕ}
use Rattle.cbfs_mistakes.specs.declared.list_fault.ListFault.{ListFault}
use Rattle.cbfs_mistakes.specs.declared.list_fault.ListFault.TheVariants as faults

-- device faults in an error
abbrev pub by_device : ListFault → ℕ
by_device faults.Device = 1
by_device _ = 0
