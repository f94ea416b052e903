use Rattle.std.specs.List.{flat_map}
use Rattle.check_report.specs.Reports.{components_in, component_columns}
use Rattle.check_report.proofs.TableEffects.{puts_failed, puts_nothing, table_puts, table_undrawn, table_unmeasured}
use Rattle.check_report.proofs.inspection.Inspection.print_all_components.Goals as goal

pub returns : goal.returns
returns g c = rw (← c.measure.ensures.out) (table_puts g.W.Sink c.args.colours component_columns (flat_map components_in c.args.self.now.findings.items) c.measure.new.self c.list_components.new.printer c.draw.new.self c.list_components-2.new.printer c.list_components-2.result
    c.in_ok-measure.ensures.form c.in_ok-measure.ensures.follows c.in_ok-measure.ensures.widths (rw c.deref.ensures.value at c.in_ok-list_components.ensures) c.in_ok-draw.ensures.heading c.in_ok-draw.ensures.form (rw c.deref-2.ensures.value at c.list_components-2.ensures))

pub returns-in_err-measure : goal.returns-in_err-measure
returns-in_err-measure g c = puts_nothing g.W.Sink _ _ _ _ c.from_residual.ensures.1 c.measure.ensures.out

pub returns-in_err-list_components : goal.returns-in_err-list_components
returns-in_err-list_components g c = puts_failed g.W.Sink _ _ _ _ _ c.from_residual-in_err-list_components.ensures.1
    (rw (← c.measure.ensures.out) (table_unmeasured g.W.Sink c.args.colours component_columns (flat_map components_in c.args.self.now.findings.items) c.measure.new.self c.list_components.new.printer _ c.in_ok-measure.ensures.form (rw c.deref.ensures.value at c.in_err-list_components.ensures)))

pub returns-in_err-draw : goal.returns-in_err-draw
returns-in_err-draw g c = puts_failed g.W.Sink _ _ _ _ _ c.from_residual-in_err-draw.ensures.1
    (rw (← c.measure.ensures.out) (table_undrawn g.W.Sink c.args.colours component_columns (flat_map components_in c.args.self.now.findings.items) c.measure.new.self c.list_components.new.printer c.draw.new.self _
    c.in_ok-measure.ensures.form c.in_ok-measure.ensures.follows c.in_ok-measure.ensures.widths (rw c.deref.ensures.value at c.in_ok-list_components.ensures) c.in_err-draw.ensures.heading))
