use Rattle.std.proofs.Common.{Ok, map, take}
use Rattle.std.specs.List.{flat_map}
use Rattle.check_report.specs.Effects.{Adds}
use Rattle.check_report.specs.ChangeRows.{area_change_rows}
use Rattle.check_report.proofs.changes.add_area_changes.Given as goal

abbrev pub invariant-loop-change : goal.invariant-loop-change
invariant-loop-change g l = Adds g.W.Sink (Ok tt) l.initial.rows l.rows
    (flat_map (area_change_rows (map (λ n. n.now) l.kept.names.items) (map (λ n. n.now) l.vital.names.items)) (take l.change-index l.changes))
