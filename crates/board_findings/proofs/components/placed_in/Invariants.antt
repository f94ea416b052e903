use Rattle.std.proofs.Common.{◌-◌}
use Rattle.board_findings.proofs.PlacedComponents.{PlacedSoFar}
use Rattle.board_findings.proofs.components.placed_in.Given as goal

abbrev pub invariant-loop-cell : goal.invariant-loop-cell
invariant-loop-cell g l = PlacedSoFar l.fn.region l.walk l.components.items l.initial.paged l.paged

abbrev pub decreases-loop-cell : goal.decreases-loop-cell
decreases-loop-cell g l = l.walk.region.size - l.walk.at
