-- The steps after a refused step, the refusals of files, and the exit status.
use Rattle.std.specs.Prelude.{ℕ, Bool, true, false, List, [], ◌∷◌, Result, Ok, Err, if◌then◌else◌}
use Rattle.std.specs.declared.io.ErrorKind.{ErrorKind}
use Rattle.std.specs.declared.io.ErrorKind.TheVariants.{OutOfMemory}
use Rattle.flash_store.specs.declared.open_fault.OpenFault.{OpenFault}
use Rattle.flash_store.specs.declared.open_fault.OpenFault.TheVariants as open_fault
use Rattle.cbfs_requests.specs.declared.refusal.Refusal.{Refusal}
use Rattle.cbfs_requests.specs.declared.refusal.Refusal.TheVariants as refusals
use Rattle.cbfs_steps.specs.declared.steps.Step.{Step}
use Rattle.cbfs_steps.specs.declared.steps.Step.TheVariants as step
use Rattle.cbfs_steps.specs.declared.progress.Progress.{Progress}
use Rattle.cbfs_steps.specs.declared.progress.Progress.TheVariants.{Going, RunRefused, Ended}

abbrev pub Answer : Type 0
Answer = Result (Unit {0}) Refusal

-- after a refused run only its output is written
abbrev pub takes : Progress → Step → Bool
takes Going taken = true
takes (RunRefused refusal) step.Unlock = true
takes (RunRefused refusal) step.WriteOutput = true
takes (RunRefused refusal) taken = false
takes (Ended refusal) taken = false

-- the first refusal remains
abbrev pub progress_after : Progress → Step → Answer → Progress
progress_after Going step.Run (Err refusal) = RunRefused refusal
progress_after Going taken (Err refusal) = Ended refusal
progress_after progress taken answer = progress

abbrev pub answer_of : Progress → Answer
answer_of Going = Ok tt
answer_of (RunRefused refusal) = Err refusal
answer_of (Ended refusal) = Err refusal

-- the steps that are taken, by the answer of each
abbrev pub steps_taken : (Step → Answer) → Progress → List Step → List Step
steps_taken answers progress [] = []
steps_taken answers progress (next ∷ rest) = if takes progress next
    then next ∷ steps_taken answers (progress_after progress next (answers next)) rest
    else steps_taken answers progress rest

-- ---- files

-- a file that can't be opened: IMAGE 1, an output 2, an input 3
abbrev pub file_refusal : Step → Refusal
file_refusal step.OpenInput = refusals.Source
file_refusal step.MakeOutput = refusals.Output
file_refusal opening = refusals.Device

-- unless size or memory is the cause
abbrev pub opening_refusal : Step → OpenFault → Refusal
opening_refusal opening (open_fault.Failed kind) = file_refusal opening
opening_refusal opening open_fault.TooLarge = refusals.TooLarge
opening_refusal opening open_fault.Memory = refusals.Memory

-- arguments that can't be read
abbrev pub words_refusal : ErrorKind → Refusal
words_refusal OutOfMemory = refusals.Memory
words_refusal kind = refusals.Usage

-- 2 for a bad command line
abbrev pub exit_status : Answer → ℕ
exit_status (Ok done) = 0
exit_status (Err refusals.Usage) = 2
exit_status (Err refusal) = 1
