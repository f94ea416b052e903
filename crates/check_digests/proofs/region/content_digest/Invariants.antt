use Rattle.std.proofs.Common.{◌-◌}
use Rattle.sha2.specs.Hashers.{Holds256}
use Rattle.cbfs_walk.proofs.Digests.{Taking}
use Rattle.check_digests.proofs.region.content_digest.Given as goal

abbrev pub invariant-loop-at : goal.invariant-loop-at
invariant-loop-at g l = Taking Holds256 l.region l.initial.at l.end l.at l.fn.paged l.paged l.hasher

abbrev pub decreases-loop-at : goal.decreases-loop-at
decreases-loop-at g l = l.end - l.at
