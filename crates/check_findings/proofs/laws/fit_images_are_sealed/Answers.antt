use Rattle.check_findings.proofs.AnchorLemmas.{sealed}
use Rattle.check_findings.proofs.ImageLemmas.FitImages.{fit_anchor}
use Rattle.check_findings.proofs.laws.fit_images_are_sealed.Goals as goal

pub returns : goal.returns
returns c = λ needs image names expected a fit there. sealed image a there (fit_anchor needs image names expected fit)
