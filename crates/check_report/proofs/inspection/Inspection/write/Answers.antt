use Rattle.check_report.specs.Reports.{lines_report, report, terminal_report}
use Rattle.check_report.proofs.inspection.Inspection.write.Goals as goal

pub returns-in-Text-clause-text : goal.returns-in-Text-clause-text
unfolding report lines_report
returns-in-Text-clause-text g c = rw c.in-Text.is c.write_lines.ensures.text

pub returns-in-Text-clause-part : goal.returns-in-Text-clause-part
unfolding report lines_report
returns-in-Text-clause-part g c = rw c.in-Text.is c.write_lines.ensures.part

pub returns-in-Json-clause-text : goal.returns-in-Json-clause-text
unfolding report lines_report
returns-in-Json-clause-text g c = rw c.in-Json.is c.write_lines-in-Json.ensures.text

pub returns-in-Json-clause-part : goal.returns-in-Json-clause-part
unfolding report lines_report
returns-in-Json-clause-part g c = rw c.in-Json.is c.write_lines-in-Json.ensures.part

pub returns-in-Terminal-clause-text : goal.returns-in-Terminal-clause-text
unfolding report terminal_report
returns-in-Terminal-clause-text g c = rw c.in-Terminal.is c.write_tables.ensures.text

pub returns-in-Terminal-clause-part : goal.returns-in-Terminal-clause-part
unfolding report terminal_report
returns-in-Terminal-clause-part g c = rw c.in-Terminal.is c.write_tables.ensures.part
