use Rattle.check_findings.proofs.RegionLemmas.Shadows.{unshadowed_found}
use Rattle.check_findings.proofs.laws.unshadowed_components_are_found.Goals as goal

pub returns : goal.returns
returns c = unshadowed_found
