use Rattle.std.proofs.Common.{◌-◌}
use Rattle.check_digests.proofs.WalkSteps.{DigestsSoFar}
use Rattle.check_digests.proofs.region.push_region.Given as goal

abbrev pub invariant-loop-cell : goal.invariant-loop-cell
invariant-loop-cell g l = DigestsSoFar l.fn.region l.walk l.initial.all.items l.all.items l.initial.paged l.paged

abbrev pub decreases-loop-cell : goal.decreases-loop-cell
decreases-loop-cell g l = l.walk.region.size - l.walk.at
