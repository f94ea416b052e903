use Rattle.std.proofs.Common.{refl}
use Rattle.check_report.specs.SlotChanges.{outdated_row}
use Rattle.check_report.proofs.SoundRows.{adds_failed, adds_stopped_map}
use Rattle.check_report.proofs.slot_changes.add_outdated_slots.Goals as goal

pub returns-in_err-add : goal.returns-in_err-add
returns-in_err-add g c = adds_failed c.from_residual.ensures.1 (adds_stopped_map outdated_row c.args.slots.now c.loop-slot.slot-index
    _ _ c.loop-slot-test.true refl c.loop-slot.invariant (rw c.outdated_row.ensures at c.in_err-add.ensures))
