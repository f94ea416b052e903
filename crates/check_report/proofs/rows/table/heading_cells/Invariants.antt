use Rattle.std.proofs.Common.{◌≡◌, map, take}
use Rattle.check_report.specs.Tables.{heading_cells}
use Rattle.check_report.proofs.rows.table.heading_cells.Given as goal

abbrev pub invariant-loop-text : goal.invariant-loop-text
invariant-loop-text l = map (λ cell. cell.items) l.cells.items ≡ heading_cells (take l.text-index l.heading)
