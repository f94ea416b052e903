use Rattle.check_findings.proofs.ImageLemmas.Needs.{needs_met}
use Rattle.check_findings.proofs.laws.needs_are_there.Goals as goal

pub returns : goal.returns
returns c = needs_met
