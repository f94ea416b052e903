use Rattle.check_report.specs.AreaLines.{area_lines}
use Rattle.check_report.specs.Reports.{area_columns}
use Rattle.check_report.proofs.TableEffects.{puts_failed, puts_nothing, table_puts, table_undrawn, table_unmeasured}
use Rattle.check_report.proofs.inspection.Inspection.print_areas.Goals as goal

pub returns : goal.returns
returns g c = rw (← c.measure.ensures.out) (table_puts g.W.Sink c.args.colours area_columns (area_lines c.args.self.now) c.measure.new.self c.list_areas.new.printer c.draw.new.self c.list_areas-2.new.printer c.list_areas-2.result
    c.in_ok-measure.ensures.form c.in_ok-measure.ensures.follows c.in_ok-measure.ensures.widths c.in_ok-list_areas.ensures c.in_ok-draw.ensures.heading c.in_ok-draw.ensures.form c.list_areas-2.ensures)

pub returns-in_err-measure : goal.returns-in_err-measure
returns-in_err-measure g c = puts_nothing g.W.Sink _ _ _ _ c.from_residual.ensures.1 c.measure.ensures.out

pub returns-in_err-list_areas : goal.returns-in_err-list_areas
returns-in_err-list_areas g c = puts_failed g.W.Sink _ _ _ _ _ c.from_residual-in_err-list_areas.ensures.1
    (rw (← c.measure.ensures.out) (table_unmeasured g.W.Sink c.args.colours area_columns (area_lines c.args.self.now) c.measure.new.self c.list_areas.new.printer _ c.in_ok-measure.ensures.form c.in_err-list_areas.ensures))

pub returns-in_err-draw : goal.returns-in_err-draw
returns-in_err-draw g c = puts_failed g.W.Sink _ _ _ _ _ c.from_residual-in_err-draw.ensures.1
    (rw (← c.measure.ensures.out) (table_undrawn g.W.Sink c.args.colours area_columns (area_lines c.args.self.now) c.measure.new.self c.list_areas.new.printer c.draw.new.self _
    c.in_ok-measure.ensures.form c.in_ok-measure.ensures.follows c.in_ok-measure.ensures.widths c.in_ok-list_areas.ensures c.in_err-draw.ensures.heading))
