use Rattle.check_findings.proofs.ImageLemmas.Limits.{over_limit, within_limit}
use Rattle.check_findings.proofs.laws.two_image_lengths_are_checked.Goals as goal

pub returns : goal.returns
returns c = record { all = within_limit; left_out = over_limit }
