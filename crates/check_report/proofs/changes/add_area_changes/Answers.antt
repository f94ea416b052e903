use Rattle.std.proofs.Common.{map, refl}
use Rattle.check_report.specs.ChangeRows.{area_change_rows}
use Rattle.check_report.proofs.SoundRows.{adds_failed, adds_stopped}
use Rattle.check_report.proofs.changes.add_area_changes.Goals as goal

pub returns-in_err-add : goal.returns-in_err-add
returns-in_err-add g c =
    let row = rw c.in-Some.is at c.area_change_row.ensures in
    adds_failed c.from_residual.ensures.1 (adds_stopped (area_change_rows (map (λ n. n.now) c.args.kept.now.names.items) (map (λ n. n.now) c.args.vital.now.names.items))
    c.args.changes.now c.loop-change.change-index _ _ c.loop-change-test.true refl c.loop-change.invariant (rw row at c.in_err-add.ensures))
