-- Errors of a check.
use Rattle.std.specs.Prelude.{ℕ}
use Rattle.check_findings.specs.declared.fault.CheckFault.{CheckFault}
use Rattle.check_findings.specs.declared.fault.CheckFault.TheVariants as faults

-- the number of refused device calls in a fault
abbrev pub by_device : CheckFault → ℕ
by_device faults.Device = 1
by_device faults.Memory = 0
