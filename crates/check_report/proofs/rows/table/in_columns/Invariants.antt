use Rattle.std.proofs.Common.{◌≡◌, ◌++◌, drop, map}
use Rattle.check_report.specs.Tables.{in_columns}
use Rattle.check_report.proofs.rows.table.in_columns.Given as goal

abbrev pub invariant-loop-i : goal.invariant-loop-i
invariant-loop-i l = l.text.items ++ in_columns (drop l.i l.widths) (drop l.i (map (λ cell. cell.items) l.cells))
    ≡ in_columns l.widths (map (λ cell. cell.items) l.cells)
