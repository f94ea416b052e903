use Rattle.check_findings.proofs.ImageLemmas.FitImages.{fit_image}
use Rattle.check_findings.proofs.laws.fit_images_are_whole.Goals as goal

pub returns : goal.returns
returns c = fit_image
