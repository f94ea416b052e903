use Rattle.std.proofs.Common.{◌≡◌, length, map, take}
use Rattle.check_report.specs.Tables.{heading_cells}
use Rattle.check_report.proofs.rows.printer.Printer.measure.Given as goal

abbrev pub invariant-loop-text : goal.invariant-loop-text
invariant-loop-text g l = l.widths.items ≡ map length (heading_cells (take l.text-index l.heading))
