use Rattle.check_report.proofs.TableLaws.{aligned, heading_aligned}
use Rattle.check_report.proofs.laws.columns_are_aligned.Goals as goal

pub returns-clause-lines : goal.returns-clause-lines
returns-clause-lines c = aligned

pub returns-clause-heading : goal.returns-clause-heading
returns-clause-heading c = heading_aligned
