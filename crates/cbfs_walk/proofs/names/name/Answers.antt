use Rattle.std.proofs.lemmas.Grind.{common_steps}
use Rattle.std.proofs.Common.{arith}
use Rattle.cbfs_walk.proofs.Parts.{length-region}
use Rattle.cbfs_walk.proofs.CellNames.{name_written, read_name}
use Rattle.cbfs_walk.proofs.names.name.Goals as goal

pub returns-clause-name : goal.returns-clause-name
returns-clause-name g c = grind (arith, common_steps, length-region, name_written)

pub returns-clause-len : goal.returns-clause-len
returns-clause-len g c = grind (arith, common_steps, length-region, read_name)
