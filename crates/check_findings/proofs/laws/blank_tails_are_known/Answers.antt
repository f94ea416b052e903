use Rattle.check_findings.proofs.RegionLemmas.Tails.{blank_tails}
use Rattle.check_findings.proofs.laws.blank_tails_are_known.Goals as goal

pub returns : goal.returns
returns c = blank_tails
