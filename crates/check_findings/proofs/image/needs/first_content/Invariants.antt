use Rattle.std.proofs.Common.{◌≡◌, drop}
use Rattle.check_findings.specs.RegionFindings.{first_content}
use Rattle.check_findings.proofs.image.needs.first_content.Given as goal

abbrev pub invariant-loop-finding : goal.invariant-loop-finding
invariant-loop-finding l =
    first_content l.wanted (drop l.finding-index l.findings) ≡ first_content l.wanted l.findings
