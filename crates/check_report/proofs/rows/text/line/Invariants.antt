use Rattle.std.proofs.Common.{◌≡◌, ◌++◌, map, take}
use Rattle.std.specs.List.{flat_map}
use Rattle.check_report.specs.Fields.{field_text, seen_field}
use Rattle.check_report.proofs.rows.text.line.Given as goal

abbrev pub invariant-loop-field : goal.invariant-loop-field
invariant-loop-field l = l.text.items ≡ l.head
    ++ flat_map field_text (map seen_field (take l.field-index l.fields))
