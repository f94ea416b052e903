use Rattle.std.proofs.Common.{refl}
use Rattle.check_report.specs.ChangeRows.{map_change_row}
use Rattle.check_report.proofs.SoundRows.{adds_failed, adds_stopped_map}
use Rattle.check_report.proofs.changes.add_map_changes.Goals as goal

pub returns-in_err-add : goal.returns-in_err-add
returns-in_err-add g c = adds_failed c.from_residual.ensures.1 (adds_stopped_map (map_change_row c.args.is_strict) c.args.changes.now c.loop-change.change-index
    _ _ c.loop-change-test.true refl c.loop-change.invariant (rw c.map_change_row.ensures at c.in_err-add.ensures))
