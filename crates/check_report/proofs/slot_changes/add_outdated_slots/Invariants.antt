use Rattle.std.proofs.Common.{Ok, map, take}
use Rattle.check_report.specs.Effects.{Adds}
use Rattle.check_report.specs.SlotChanges.{outdated_row}
use Rattle.check_report.proofs.slot_changes.add_outdated_slots.Given as goal

abbrev pub invariant-loop-slot : goal.invariant-loop-slot
invariant-loop-slot g l = Adds g.W.Sink (Ok tt) l.initial.rows l.rows
    (map outdated_row (take l.slot-index l.slots))
