use Rattle.std.proofs.Common.{◌≡◌, drop}
use Rattle.check_findings.specs.Needs.{unmet}
use Rattle.check_findings.proofs.image.needs.unmet.Given as goal

abbrev pub invariant-loop-finding : goal.invariant-loop-finding
invariant-loop-finding l =
    unmet (drop l.finding-index l.findings) l.need ≡ unmet l.findings l.need
