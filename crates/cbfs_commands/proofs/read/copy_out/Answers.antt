use Rattle.std.proofs.lemmas.Grind.{common_steps}
use Rattle.std.proofs.Common.{◌≡◌, ℕ, ◌+◌, Err, arith}
use Rattle.std.specs.Prelude.{slice_range}
use Rattle.std.specs.Result.{IsErrAnd}
use Rattle.flash_device.specs.declared.sink.Sink.{Ghosts as SinkOf}
use Rattle.flash_device.specs.Pages.{HasCopiedOut, Pages}
use Rattle.flash_device.specs.declared.paged.CopyFault.{CopyFault}
use Rattle.cbfs_requests.specs.Requests.{copy_refusal}
use Rattle.cbfs_commands.specs.Outcomes.{CommandResult, HasOutput, shows}
use Rattle.cbfs_commands.proofs.OutputParts.{handed}
use Rattle.cbfs_commands.proofs.read.copy_out.Goals as goal

module _ {F W : Type 0} {sink : SinkOf W} {k at n : ℕ} {old new : Pages F} {a b : W} {answer : CommandResult} where
  -- an interrupted copy writes a prefix
  stopped : (fault : CopyFault) → HasCopiedOut {T = Unit {0}} sink k at n old new a b (Err fault) → IsErrAnd answer (λ r. r ≡ copy_refusal fault)
      → HasOutput sink k old new a b answer (λ image. shows (slice_range image at (at + n)))
  stopped fault copied is = grind (arith, common_steps, handed)

pub returns-in_err-copy_out : goal.returns-in_err-copy_out
returns-in_err-copy_out g c = stopped c.in_err-copy_out.field-0.0 c.in_err-copy_out.ensures.after c.from_residual.ensures.1

pub returns : goal.returns
returns g c = grind (arith, common_steps)
