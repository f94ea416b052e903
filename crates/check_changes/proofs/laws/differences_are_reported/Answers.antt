use Rattle.check_changes.proofs.AreaLemmas.ReportedBytes.{reported}
use Rattle.check_changes.proofs.laws.differences_are_reported.Goals as goal

pub returns : goal.returns
returns c = reported
