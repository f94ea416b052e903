use Rattle.std.proofs.Common.{map}
use Rattle.std.specs.List.{flat_map}
use lib.Chars.{codes}
use Rattle.check_report.specs.Reports.{fields_to_areas, listing, map_line, text_of_line}
use Rattle.check_report.proofs.PrinterEffects.{prints_failed}
use Rattle.check_report.proofs.HeadingEffects.{array_unfinished, array_unstarted, array_whole}
use Rattle.check_report.proofs.inspection.Inspection.print_listed_heading.Goals as goal

pub returns : goal.returns
returns g c = let areas = map map_line c.args.self.now.areas.items in
    array_whole g.W.Sink (flat_map (text_of_line c.args.printer.now.form) areas) (fields_to_areas c.args.files areas) (codes "components") (codes "rows")
    (listing c.args.self.now).components _ _ _ _ _
    c.in_ok-print_area_heading.ensures (rw (c.deref.ensures.value, c.deref-2.ensures.value) at c.in_ok-list_hashed.ensures) c.next_array.ensures

pub returns-in_err-print_area_heading : goal.returns-in_err-print_area_heading
returns-in_err-print_area_heading g c = let areas = map map_line c.args.self.now.areas.items in
    prints_failed g.W.Sink _ _ _ _ _ _ c.from_residual.ensures.1
    (array_unstarted g.W.Sink (flat_map (text_of_line c.args.printer.now.form) areas) (fields_to_areas c.args.files areas) (codes "components") (codes "rows")
    (listing c.args.self.now).components _ _ _ c.in_err-print_area_heading.ensures)

pub returns-in_err-list_hashed : goal.returns-in_err-list_hashed
returns-in_err-list_hashed g c = let areas = map map_line c.args.self.now.areas.items in
    prints_failed g.W.Sink _ _ _ _ _ _ c.from_residual-in_err-list_hashed.ensures.1
    (array_unfinished g.W.Sink (flat_map (text_of_line c.args.printer.now.form) areas) (fields_to_areas c.args.files areas) (codes "components") (codes "rows")
    (listing c.args.self.now).components _ _ _ _
    c.in_ok-print_area_heading.ensures (rw (c.deref.ensures.value, c.deref-2.ensures.value) at c.in_err-list_hashed.ensures))
