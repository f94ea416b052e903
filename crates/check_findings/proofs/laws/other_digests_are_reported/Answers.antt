use Rattle.check_findings.proofs.AnchorLemmas.{reported}
use Rattle.check_findings.proofs.laws.other_digests_are_reported.Goals as goal

pub returns : goal.returns
returns c = record {
  metadata = λ image s is. (reported image s is).0;
  map = λ image s is. (reported image s is).1;
}
