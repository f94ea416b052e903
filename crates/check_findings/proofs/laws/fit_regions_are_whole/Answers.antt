use Rattle.check_findings.proofs.ImageLemmas.Fit.{fit_region}
use Rattle.check_findings.proofs.laws.fit_regions_are_whole.Goals as goal

pub returns : goal.returns
returns c = fit_region
