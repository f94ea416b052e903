use Rattle.std.proofs.Common.{refl}
use Rattle.check_report.specs.StructureRows.{structure_row}
use Rattle.check_report.proofs.SoundRows.{adds_failed, adds_stopped_map}
use Rattle.check_report.proofs.structures.add_lost_structures.Goals as goal

pub returns-in_err-add : goal.returns-in_err-add
returns-in_err-add g c = adds_failed c.from_residual.ensures.1 (adds_stopped_map structure_row c.args.lost.now c.loop-structure.structure-index
    _ _ c.loop-structure-test.true refl c.loop-structure.invariant (rw c.structure_row.ensures at c.in_err-add.ensures))
