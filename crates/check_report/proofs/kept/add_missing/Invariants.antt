use Rattle.std.proofs.Common.{Ok, map, take}
use Rattle.std.specs.Prelude.{not}
use Rattle.std.specs.List.{flat_map, list_any}
use Rattle.check_report.specs.Effects.{Adds}
use Rattle.check_report.specs.FindingRows.{missing_row}
use Rattle.check_report.specs.Fields.{name_value}
use Rattle.check_findings.specs.Lists.{only_if}
use Rattle.check_findings.specs.Areas.{has_name}
use Rattle.check_report.specs.Reports.{both_areas}
use Rattle.check_report.proofs.kept.add_missing.Given as goal

abbrev pub invariant-loop-name : goal.invariant-loop-name
invariant-loop-name g l = Adds g.W.Sink (Ok tt) l.initial.rows l.rows
    (flat_map (λ name. only_if (not (list_any (has_name name) (both_areas l.request l.new_areas l.changes)))
    (missing_row (name_value name))) (map (λ n. n.now) (take l.name-index l.request.kept.now)))
