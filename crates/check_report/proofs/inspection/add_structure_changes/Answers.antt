use Rattle.check_report.proofs.SoundRows.{adds_after, adds_before, adds_failed}
use Rattle.check_report.proofs.inspection.add_structure_changes.Goals as goal

pub returns : goal.returns
returns g c = adds_after (rw c.deref.ensures.value at c.in_ok-add_lost_structures.ensures) (rw c.deref-2.ensures.value at c.add_outdated_slots.ensures)

pub returns-in_err-add_lost_structures : goal.returns-in_err-add_lost_structures
returns-in_err-add_lost_structures g c = adds_failed c.from_residual.ensures.1 (adds_before _ (rw c.deref.ensures.value at c.in_err-add_lost_structures.ensures))
