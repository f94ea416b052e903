use Rattle.std.proofs.Common.{◌∙◌, sym}
use Rattle.check_report.proofs.PrinterEffects.{prints_none}
use Rattle.check_report.proofs.inspection.Inspection.list_areas.Goals as goal

pub returns-then-has_area_table : goal.returns-then-has_area_table
returns-then-has_area_table g c = rw (sym c.has_area_table.ensures ∙ c.if-has_area_table.true) (rw c.deref.ensures.value at c.list_all_areas.ensures)

pub returns-else-has_area_table : goal.returns-else-has_area_table
returns-else-has_area_table g c = rw (sym c.has_area_table.ensures ∙ c.if-has_area_table.false) (prints_none g.W.Sink c.args.printer.now)
