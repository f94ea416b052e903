use Rattle.std.proofs.Common.{[], ◌∷◌, ap, ◌∙◌}
use Rattle.std.specs.List.{scan}
use Rattle.check_findings.specs.RegionFindings.{marked, region_findings}
use Rattle.check_findings.proofs.region.entries.check_region.Goals as goal

pub returns-clause-findings : goal.returns-clause-findings
unfolding region_findings
returns-clause-findings g c = λ h. c.in_ok-mark_shadowed.ensures ∙ ap (λ l. scan (λ earlier finding. finding ∷ earlier) marked [] l) (c.in_ok-findings.ensures.findings h)
