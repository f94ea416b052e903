use Rattle.std.proofs.Common.{arith, rules}
use Rattle.std.proofs.lemmas.Grind.{common_steps}
use Rattle.cbfs_commands.proofs.write.write.Goals as goal

pub returns-in_err-copy_in-clause-effect : goal.returns-in_err-copy_in-clause-effect
returns-in_err-copy_in-clause-effect g c = record { calls = search rules; source_calls = search rules; no_output = search rules; spares = search rules; refused = search rules; left = search rules; stopped = grind (arith, common_steps) }
