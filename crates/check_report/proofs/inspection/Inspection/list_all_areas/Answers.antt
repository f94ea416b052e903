use Rattle.std.proofs.Common.{refl}
use Rattle.check_report.specs.AreaLines.{area_line}
use Rattle.check_report.proofs.PrinterEffects.{lines_failed, prints_none, prints_stopped_map, prints_then_map}
use Rattle.check_report.proofs.inspection.Inspection.list_all_areas.Goals as goal

pub loop-area-init : goal.loop-area-init
loop-area-init g c = prints_none g.W.Sink _

pub loop-area-preserved : goal.loop-area-preserved
loop-area-preserved g c = prints_then_map g.W.Sink _ c.loop-area.printer _ (area_line c.args.self.now) c.args.areas.now c.loop-area.area-index _ _
    c.loop-area-test.true refl c.loop-area.invariant (rw c.area_fields.ensures at c.in_ok-line.ensures)

pub returns-in_err-line : goal.returns-in_err-line
returns-in_err-line g c = lines_failed g.W.Sink _ _ _ _ _ c.from_residual.ensures.1
    (prints_stopped_map g.W.Sink _ c.loop-area.printer _ _ (area_line c.args.self.now) c.args.areas.now c.loop-area.area-index _ _
    c.loop-area-test.true refl c.loop-area.invariant (rw c.area_fields.ensures at c.in_err-line.ensures))
