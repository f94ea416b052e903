use Rattle.std.proofs.Common.{arith}
use Rattle.std.proofs.lemmas.Grind.{common_steps}
use Rattle.cbfs_walk.proofs.CellNames.{has_field}
use Rattle.cbfs_walk.proofs.Checks.{content_fits}
use Rattle.cbfs_anchor.proofs.metadata.hash_terminated.Goals as goal

pub returns-clause-hashed : goal.returns-clause-hashed
returns-clause-hashed g c = grind (arith, common_steps, has_field, content_fits)
