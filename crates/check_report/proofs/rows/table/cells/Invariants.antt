use Rattle.std.proofs.Common.{◌≡◌, ◌∷◌, map, take}
use Rattle.std.specs.List.{flat_map}
use Rattle.check_report.specs.Fields.{seen_field}
use Rattle.check_report.specs.Tables.{field_cells}
use Rattle.check_report.proofs.rows.table.cells.Given as goal

abbrev pub invariant-loop-field : goal.invariant-loop-field
invariant-loop-field l = map (λ cell. cell.items) l.cells.items
    ≡ l.head ∷ flat_map field_cells (map seen_field (take l.field-index l.fields))
