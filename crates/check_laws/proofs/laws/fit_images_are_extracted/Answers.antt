use Rattle.std.proofs.lemmas.List.Elements.{All-weaker}
use Rattle.check_findings.specs.ImageFindings.{image_findings}
use Rattle.check_findings.specs.Laws.{IsFit}
use Rattle.check_findings.specs.ImageFindings.{region_areas}
use Rattle.check_laws.proofs.AreaOutputs.{IsExtracted, extracted_area}
use Rattle.check_laws.proofs.laws.fit_images_are_extracted.Goals as goal

pub returns : goal.returns
returns c = λ needs image names expected fit.
    All-weaker (IsFit image) (IsExtracted image) (extracted_area image) (region_areas (image_findings image names expected)) (c.fit_images_are_whole.ensures needs image names expected fit)
