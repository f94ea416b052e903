use Rattle.check_report.proofs.PrinterEffects.{prints_none}
use Rattle.check_report.proofs.rows.printer.Printer.row_if.Goals as goal

pub returns-else-is_shown : goal.returns-else-is_shown
returns-else-is_shown g c = rw c.if-is_shown.false (prints_none g.W.Sink c.args.self.now)

pub returns-then-is_shown : goal.returns-then-is_shown
returns-then-is_shown g c = rw c.if-is_shown.true (rw (c.word.ensures, c.fields.ensures) at c.line.ensures)
