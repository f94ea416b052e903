use Rattle.std.proofs.Common.{[], map}
use lib.Chars.{codes}
use Rattle.check_report.specs.Reports.{file_fields, map_line}
use Rattle.check_report.proofs.PrinterEffects.{prints_failed}
use Rattle.check_report.proofs.HeadingEffects.{array_unfinished, array_unstarted, array_whole}
use Rattle.check_report.proofs.inspection.Inspection.print_area_heading.Goals as goal

pub returns : goal.returns
returns g c = array_whole g.W.Sink [] (file_fields c.args.files) (codes "areas") (codes "components") (map map_line c.args.self.now.areas.items) _ _ _ _ _
    c.in_ok-start.ensures (rw c.deref.ensures.value at c.in_ok-list_map.ensures) c.next_array.ensures

pub returns-in_err-start : goal.returns-in_err-start
returns-in_err-start g c = prints_failed g.W.Sink _ _ _ _ _ _ c.from_residual.ensures.1
    (array_unstarted g.W.Sink [] (file_fields c.args.files) (codes "areas") (codes "components") (map map_line c.args.self.now.areas.items) _ _ _ c.in_err-start.ensures)

pub returns-in_err-list_map : goal.returns-in_err-list_map
returns-in_err-list_map g c = prints_failed g.W.Sink _ _ _ _ _ _ c.from_residual-in_err-list_map.ensures.1
    (array_unfinished g.W.Sink [] (file_fields c.args.files) (codes "areas") (codes "components") (map map_line c.args.self.now.areas.items) _ _ _ _
    c.in_ok-start.ensures (rw c.deref.ensures.value at c.in_err-list_map.ensures))
