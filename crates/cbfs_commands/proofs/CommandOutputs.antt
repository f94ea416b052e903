-- The output of a change, and the image after a report.
use Rattle.std.proofs.lemmas.Grind.{common_steps}
use Rattle.std.proofs.Common.{◌≡◌, ℕ, List, [], Option, Err, arith}
use Rattle.std.proofs.KnownBytes.{Appends-nil}
use Rattle.cbfs_commands.proofs.RefusedEdits.{LeavesOr}
use Rattle.cbfs_requests.specs.declared.refusal.Refusal.TheVariants as refusals
use Rattle.cbfs_commands.specs.Outcomes.{Outcome}
use Rattle.cbfs_commands.specs.Outcomes.{CommandResult, PrintsOut}

pub silent : (known : Option (List ℕ)) (now : List ℕ) (answer : CommandResult) (o : Outcome) → LeavesOr now answer o → o.printout.written ≡ [] → (answer ≡ Err refusals.Output → ⊥) → PrintsOut known known answer o.printout
silent known now answer o left none no_output = grind (arith, common_steps, Appends-nil)
