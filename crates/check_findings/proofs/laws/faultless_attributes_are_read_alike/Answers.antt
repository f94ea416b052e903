use Rattle.check_findings.proofs.RegionLemmas.AlikeAttributes.{read_alike}
use Rattle.check_findings.proofs.laws.faultless_attributes_are_read_alike.Goals as goal

pub returns : goal.returns
returns c = read_alike
