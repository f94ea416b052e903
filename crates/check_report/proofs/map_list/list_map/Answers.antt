use Rattle.std.proofs.Common.{refl}
use Rattle.check_report.specs.Reports.{map_line}
use Rattle.check_report.proofs.PrinterEffects.{lines_failed, prints_none, prints_stopped_map, prints_then_map}
use Rattle.check_report.proofs.map_list.list_map.Goals as goal

pub loop-area-init : goal.loop-area-init
loop-area-init g c = prints_none g.W.Sink _

pub loop-area-preserved : goal.loop-area-preserved
loop-area-preserved g c = prints_then_map g.W.Sink _ c.loop-area.printer _ map_line c.args.areas.now c.loop-area.area-index _ _
    c.loop-area-test.true refl c.loop-area.invariant (rw c.map_fields.ensures at c.in_ok-line.ensures)

pub returns-in_err-line : goal.returns-in_err-line
returns-in_err-line g c = lines_failed g.W.Sink _ _ _ _ _ c.from_residual.ensures.1
    (prints_stopped_map g.W.Sink _ c.loop-area.printer _ _ map_line c.args.areas.now c.loop-area.area-index _ _
    c.loop-area-test.true refl c.loop-area.invariant (rw c.map_fields.ensures at c.in_err-line.ensures))
