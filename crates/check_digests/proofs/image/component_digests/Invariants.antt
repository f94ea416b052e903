use Rattle.check_digests.proofs.AreaSteps.{Digesting}
use Rattle.check_digests.proofs.image.component_digests.Given as goal

abbrev pub invariant-loop-finding : goal.invariant-loop-finding
invariant-loop-finding g l = Digesting l.findings l.finding-index l.all.items l.initial.paged l.paged
