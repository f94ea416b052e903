use Rattle.check_report.proofs.VerdictRows.{bad_rows_shown, changes_shown, remarks_hidden, remarks_shown}
use Rattle.check_report.proofs.laws.terminals_show_the_rows_of_the_text.Goals as goal

pub returns : goal.returns
returns c = record { bad = bad_rows_shown; changes = changes_shown; remarks = remarks_shown; hidden = remarks_hidden }
