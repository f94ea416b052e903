use Rattle.std.proofs.Common.{map}
use Rattle.check_report.specs.Reports.{inspection_rows, row_columns}
use Rattle.check_report.specs.Rows.{row_line, rows_by_verdict}
use Rattle.check_report.proofs.TableEffects.{puts_failed, puts_nothing, table_puts, table_undrawn, table_unmeasured}
use Rattle.check_report.proofs.inspection.Inspection.print_row_table.Goals as goal

pub returns-clause-bytes : goal.returns-clause-bytes
returns-clause-bytes g c = rw (← c.measure.ensures.out) (table_puts g.W.Sink c.args.colours row_columns (map row_line (rows_by_verdict c.args.request.asked.is_verbose (inspection_rows c.args.request c.args.self.now)))
    c.measure.new.self c.print_rows.new.rows.printer c.draw.new.self c.print_rows-2.new.rows.printer c.print_rows-2.result
    c.in_ok-measure.ensures.form c.in_ok-measure.ensures.follows c.in_ok-measure.ensures.widths c.in_ok-print_rows.ensures.lines c.in_ok-draw.ensures.heading c.in_ok-draw.ensures.form c.print_rows-2.ensures.lines)

pub returns-in_err-measure-clause-bytes : goal.returns-in_err-measure-clause-bytes
returns-in_err-measure-clause-bytes g c = puts_nothing g.W.Sink _ _ _ _ c.from_residual.ensures.1 c.measure.ensures.out

pub returns-in_err-print_rows-clause-bytes : goal.returns-in_err-print_rows-clause-bytes
returns-in_err-print_rows-clause-bytes g c = puts_failed g.W.Sink _ _ _ _ _ c.from_residual-in_err-print_rows.ensures.1
    (rw (← c.measure.ensures.out) (table_unmeasured g.W.Sink c.args.colours row_columns (map row_line (rows_by_verdict c.args.request.asked.is_verbose (inspection_rows c.args.request c.args.self.now)))
    c.measure.new.self c.print_rows.new.rows.printer _ c.in_ok-measure.ensures.form c.in_err-print_rows.ensures.lines))

pub returns-in_err-draw-clause-bytes : goal.returns-in_err-draw-clause-bytes
returns-in_err-draw-clause-bytes g c = puts_failed g.W.Sink _ _ _ _ _ c.from_residual-in_err-draw.ensures.1
    (rw (← c.measure.ensures.out) (table_undrawn g.W.Sink c.args.colours row_columns (map row_line (rows_by_verdict c.args.request.asked.is_verbose (inspection_rows c.args.request c.args.self.now)))
    c.measure.new.self c.print_rows.new.rows.printer c.draw.new.self _
    c.in_ok-measure.ensures.form c.in_ok-measure.ensures.follows c.in_ok-measure.ensures.widths c.in_ok-print_rows.ensures.lines c.in_err-draw.ensures.heading))
