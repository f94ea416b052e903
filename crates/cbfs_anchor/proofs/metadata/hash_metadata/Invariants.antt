use Rattle.std.proofs.Common.{◌-◌}
use Rattle.cbfs_anchor.proofs.Gathering.{Gathering}
use Rattle.cbfs_anchor.proofs.metadata.hash_metadata.Given as goal

abbrev pub invariant-loop-cell : goal.invariant-loop-cell
invariant-loop-cell g l = Gathering l.demand l.algorithm l.fn.region l.walk l.hasher l.initial.paged l.paged

abbrev pub decreases-loop-cell : goal.decreases-loop-cell
decreases-loop-cell g l = l.walk.region.size - l.walk.at
