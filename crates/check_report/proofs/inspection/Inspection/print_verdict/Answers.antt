use Rattle.std.proofs.Common.{◌∙◌}
use Rattle.check_report.specs.Reports.{inspection_rows}
use Rattle.check_report.proofs.PrinterEffects.{lines_failed}
use Rattle.check_report.proofs.TableEffects.{on_ok, verdict_counts, verdict_printed, verdict_stopped}
use Rattle.check_report.proofs.inspection.Inspection.print_verdict.Goals as goal

pub returns-clause-lines : goal.returns-clause-lines
returns-clause-lines g c = verdict_printed g.W.Sink _ (inspection_rows c.args.request c.args.self.now) c.args.rows.now.printer c.restart.new.self c.add_rows.new.rows c.more.result c.more.new.self.printer
    c.restart.ensures.sound c.restart.ensures.printer c.in_ok-add_rows.ensures c.more.ensures.lines

pub returns-in_err-add_rows-clause-lines : goal.returns-in_err-add_rows-clause-lines
returns-in_err-add_rows-clause-lines g c = lines_failed g.W.Sink _ _ _ _ _ c.from_residual.ensures.1
    (verdict_stopped g.W.Sink _ (inspection_rows c.args.request c.args.self.now) c.args.rows.now.printer c.restart.new.self c.add_rows.new.rows _ c.restart.ensures.sound c.restart.ensures.printer c.in_err-add_rows.ensures)

pub returns-clause-counts : goal.returns-clause-counts
returns-clause-counts g c = on_ok c.more.result (c.more.ensures.counts ∙ verdict_counts g.W.Sink _ (inspection_rows c.args.request c.args.self.now) c.args.rows.now.printer c.restart.new.self c.add_rows.new.rows
    c.restart.ensures.sound c.in_ok-add_rows.ensures)
