use Rattle.check_changes.proofs.RegionLemmas.{Changing}
use Rattle.check_changes.proofs.regions.regions.region_changes.Given as goal

abbrev pub invariant-loop-finding : goal.invariant-loop-finding
invariant-loop-finding g l = Changing l.olds.all.now l.findings l.finding-index l.left l.changes.items l.initial.images l.images
