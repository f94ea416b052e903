-- The failures of fmaptool, and its exit status.
use Rattle.std.specs.Prelude.{ℕ, Result, Ok, Err}
use Rattle.std.specs.declared.io.ErrorKind.{ErrorKind}
use Rattle.std.specs.declared.io.ErrorKind.TheVariants.{OutOfMemory}
use Rattle.fmd_lang.specs.declared.fault.FmdFault.TheVariants as faults
use Rattle.fmap_compiler.specs.declared.refusal.Refusal.TheVariants.{Descriptor, Read, Output}
use Rattle.fmap_steps.specs.declared.failure.Failure.{Failure}
use Rattle.fmap_steps.specs.declared.failure.Failure.TheVariants.{Usage, Refused}
use Rattle.fmap_steps.specs.declared.steps.Step.{Step}
use Rattle.fmap_steps.specs.declared.steps.Step.TheVariants as step

-- as if the descriptor had no memory
abbrev pub out_of_memory : Failure
out_of_memory = Refused (Descriptor faults.Memory)

-- `out_of_memory` after an allocation failure, or else the given failure, by the kind of the error
abbrev pub memory_or : Failure → ErrorKind → Failure
memory_or failure OutOfMemory = out_of_memory
memory_or failure kind = failure

-- a step whose system call has failed
abbrev pub step_failure : Step → ErrorKind → Failure
step_failure step.OpenInput kind = memory_or (Refused Read) kind
step_failure step.IdentifyInput kind = memory_or (Refused Read) kind
step_failure step.MakeOutput kind = memory_or (Refused Output) kind
step_failure writing kind = Refused Output

-- the failure of unreadable arguments
abbrev pub words_failure : ErrorKind → Failure
words_failure kind = memory_or Usage kind

-- 2 for a bad command line
abbrev pub exit_status : Result (Unit {0}) Failure → ℕ
exit_status (Ok done) = 0
exit_status (Err Usage) = 2
exit_status (Err (Refused refusal)) = 1
