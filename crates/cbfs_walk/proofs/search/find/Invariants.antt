use Rattle.std.proofs.Common.{◌-◌}
use Rattle.cbfs_walk.proofs.SearchSteps.{Searching}
use Rattle.cbfs_walk.proofs.search.find.Given as goal

abbrev pub invariant-loop-cell : goal.invariant-loop-cell
invariant-loop-cell g l = Searching l.fn.region l.name l.walk l.initial.paged l.paged

abbrev pub decreases-loop-cell : goal.decreases-loop-cell
decreases-loop-cell g l = l.walk.region.size - l.walk.at
