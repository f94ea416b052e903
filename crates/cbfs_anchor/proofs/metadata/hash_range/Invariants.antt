use Rattle.std.proofs.Common.{◌≡◌, ◌-◌}
use Rattle.cbfs_walk.proofs.Digests.{Taking}
use Rattle.cbfs_anchor.specs.Algorithms.{Holds, algorithm_of}
use Rattle.cbfs_anchor.proofs.metadata.hash_range.Given as goal

abbrev pub invariant-loop-at : goal.invariant-loop-at
invariant-loop-at g l = Taking Holds l.range l.initial.at l.end l.at l.fn.paged l.paged l.hasher × (algorithm_of l.hasher ≡ l.fn.algorithm)

abbrev pub decreases-loop-at : goal.decreases-loop-at
decreases-loop-at g l = l.end - l.at
