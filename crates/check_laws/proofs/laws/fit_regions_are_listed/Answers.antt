use Rattle.check_laws.proofs.AreaOutputs.{whole_region}
use Rattle.check_laws.proofs.laws.fit_regions_are_listed.Goals as goal

pub returns : goal.returns
returns c = λ needs anchor x fit verbose. whole_region anchor x verbose (c.fit_regions_are_whole.ensures needs anchor x fit)
