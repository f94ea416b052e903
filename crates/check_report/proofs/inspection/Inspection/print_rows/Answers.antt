use Rattle.std.proofs.Common.{append-nil}
use Rattle.check_report.specs.Reports.{inspection_rows}
use Rattle.check_report.proofs.PrinterEffects.{lines_after, lines_before, lines_failed}
use Rattle.check_report.proofs.TableEffects.{verdict_lines}
use Rattle.check_report.proofs.inspection.Inspection.print_rows.Goals as goal

pub returns-then-request-clause-lines : goal.returns-then-request-clause-lines
returns-then-request-clause-lines g c = rw (verdict_lines c.args.request.asked.is_verbose (inspection_rows c.args.request c.args.self.now), c.if-request.true)
    (lines_after g.W.Sink _ _ _ _ _ _ (lines_after g.W.Sink _ _ _ _ _ _ (rw c.if-request.true at c.in_ok-print_verdict.ensures.lines) (rw c.if-request.true at c.in_ok-print_verdict-2.ensures.lines)) (rw c.if-request.true at c.print_verdict-then-request.ensures.lines))

pub returns-else-request-clause-lines : goal.returns-else-request-clause-lines
returns-else-request-clause-lines g c = rw (verdict_lines c.args.request.asked.is_verbose (inspection_rows c.args.request c.args.self.now), c.if-request.false, append-nil)
    (lines_after g.W.Sink _ _ _ _ _ _ (rw c.if-request.false at c.in_ok-print_verdict.ensures.lines) (rw c.if-request.false at c.in_ok-print_verdict-2.ensures.lines))

pub returns-in_err-print_verdict-clause-lines : goal.returns-in_err-print_verdict-clause-lines
returns-in_err-print_verdict-clause-lines g c = lines_failed g.W.Sink _ _ _ _ _ c.from_residual.ensures.1
    (rw (verdict_lines c.args.request.asked.is_verbose (inspection_rows c.args.request c.args.self.now)) (lines_before g.W.Sink _ _ _ _ _ (lines_before g.W.Sink _ _ _ _ _ c.in_err-print_verdict.ensures.lines)))

pub returns-in_err-print_verdict-2-clause-lines : goal.returns-in_err-print_verdict-2-clause-lines
returns-in_err-print_verdict-2-clause-lines g c = lines_failed g.W.Sink _ _ _ _ _ c.from_residual-in_err-print_verdict-2.ensures.1
    (rw (verdict_lines c.args.request.asked.is_verbose (inspection_rows c.args.request c.args.self.now)) (lines_before g.W.Sink _ _ _ _ _ (lines_after g.W.Sink _ _ _ _ _ _ c.in_ok-print_verdict.ensures.lines c.in_err-print_verdict-2.ensures.lines)))
