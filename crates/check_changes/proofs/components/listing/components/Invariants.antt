use Rattle.std.proofs.Common.{◌-◌}
use Rattle.check_changes.proofs.ComponentLemmas.ListingLemmas.{ListedSoFar}
use Rattle.check_changes.proofs.components.listing.components.Given as goal

abbrev pub invariant-loop-cell : goal.invariant-loop-cell
invariant-loop-cell g l = ListedSoFar l.fn.region l.walk l.all l.initial.paged l.paged

abbrev pub decreases-loop-cell : goal.decreases-loop-cell
decreases-loop-cell g l = l.walk.region.size - l.walk.at
