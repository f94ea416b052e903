use Rattle.std.proofs.Common.{Ok, map, take}
use Rattle.check_report.specs.Effects.{Adds}
use Rattle.check_report.specs.ChangeRows.{map_change_row}
use Rattle.check_report.proofs.changes.add_map_changes.Given as goal

abbrev pub invariant-loop-change : goal.invariant-loop-change
invariant-loop-change g l = Adds g.W.Sink (Ok tt) l.initial.rows l.rows
    (map (map_change_row l.is_strict) (take l.change-index l.changes))
