use Rattle.std.proofs.Common.{arith}
use Rattle.std.proofs.lemmas.Grind.{common_steps}
use Rattle.cbfs_commands.proofs.print.listing.set_cell_row.Goals as goal

pub returns-then-is_free-clause-row : goal.returns-then-is_free-clause-row
returns-then-is_free-clause-row g c = grind (arith, common_steps)
