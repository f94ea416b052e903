use Rattle.check_report.proofs.ListedDigests.{each_has_digests}
use Rattle.check_report.proofs.laws.listed_components_have_digests.Goals as goal

pub returns : goal.returns
returns c = each_has_digests
