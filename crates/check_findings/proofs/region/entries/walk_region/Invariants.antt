use Rattle.std.proofs.Common.{◌-◌}
use Rattle.check_findings.proofs.RegionLemmas.WalkSteps.{Checking}
use Rattle.check_findings.proofs.region.entries.walk_region.Given as goal

abbrev pub invariant-loop-cell : goal.invariant-loop-cell
invariant-loop-cell g l = Checking l.fn.region l.walk l.findings.items l.count l.initial.paged l.paged

abbrev pub decreases-loop-cell : goal.decreases-loop-cell
decreases-loop-cell g l = l.walk.region.size - l.walk.at
