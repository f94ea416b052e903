use Rattle.std.proofs.Common.{rules}
use Rattle.cbfs_anchor.proofs.algorithm.Algorithm.number.Goals as goal

pub returns-in-Sha224 : goal.returns-in-Sha224
returns-in-Sha224 c = search rules
