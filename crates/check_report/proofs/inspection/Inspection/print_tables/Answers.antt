use Rattle.check_report.proofs.TableEffects.{puts_after, puts_before, puts_failed}
use Rattle.check_report.proofs.inspection.Inspection.print_tables.Goals as goal

pub returns-clause-bytes : goal.returns-clause-bytes
returns-clause-bytes g c = puts_after g.W.Sink _ _ _ _ _ _ (puts_after g.W.Sink _ _ _ _ _ _ c.in_ok-print_areas.ensures c.in_ok-print_components.ensures) c.print_row_table.ensures.bytes

pub returns-in_err-print_areas-clause-bytes : goal.returns-in_err-print_areas-clause-bytes
returns-in_err-print_areas-clause-bytes g c = puts_failed g.W.Sink _ _ _ _ _ c.from_residual.ensures.1 (puts_before g.W.Sink _ _ _ _ _ (puts_before g.W.Sink _ _ _ _ _ c.in_err-print_areas.ensures))

pub returns-in_err-print_components-clause-bytes : goal.returns-in_err-print_components-clause-bytes
returns-in_err-print_components-clause-bytes g c = puts_failed g.W.Sink _ _ _ _ _ c.from_residual-in_err-print_components.ensures.1
    (puts_before g.W.Sink _ _ _ _ _ (puts_after g.W.Sink _ _ _ _ _ _ c.in_ok-print_areas.ensures c.in_err-print_components.ensures))
