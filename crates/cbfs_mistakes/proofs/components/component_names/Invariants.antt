use Rattle.std.proofs.Common.{◌-◌}
use Rattle.cbfs_mistakes.proofs.ComponentNames.{NamedSoFar}
use Rattle.cbfs_mistakes.proofs.components.component_names.Given as goal

abbrev pub invariant-loop-cell : goal.invariant-loop-cell
invariant-loop-cell g l = NamedSoFar l.fn.region l.walk l.names.items l.initial.paged l.paged

abbrev pub decreases-loop-cell : goal.decreases-loop-cell
decreases-loop-cell g l = l.walk.region.size - l.walk.at
