use Rattle.std.proofs.Common.{map}
use Rattle.check_report.specs.ChangeRows.{region_change_rows}
use Rattle.check_report.proofs.SoundRows.{adds_failed, adds_stopped, adds_then}
use Rattle.check_report.proofs.changes.add_region_changes.Goals.{in-Compared+in_ok-add_component_changes-in-Compared, in-NotCompared+in_ok-add-in-NotCompared}
use Rattle.check_report.proofs.changes.add_region_changes.Goals as goal

pub returns-in_err-add_component_changes-in-Compared : goal.returns-in_err-add_component_changes-in-Compared
returns-in_err-add_component_changes-in-Compared g c = adds_failed c.from_residual.ensures.1 (adds_stopped (region_change_rows (map (λ n. n.now) c.args.kept.now.names.items)) c.args.changes.now c.loop-change.change-index
    _ c.change-item.result c.loop-change-test.true c.change-item.is c.loop-change.invariant (rw c.in-Compared.is
    (rw (c.have-is_kept.ensures, c.text.ensures.value, c.as_slice.ensures) at c.in_err-add_component_changes-in-Compared.ensures)))

pub returns-in_err-add-in-NotCompared : goal.returns-in_err-add-in-NotCompared
returns-in_err-add-in-NotCompared g c = adds_failed c.from_residual-in_err-add-in-NotCompared.ensures.1 (adds_stopped (region_change_rows (map (λ n. n.now) c.args.kept.now.names.items)) c.args.changes.now c.loop-change.change-index
    _ c.change-item.result c.loop-change-test.true c.change-item.is c.loop-change.invariant (rw c.in-NotCompared.is
    (rw (c.not_compared_row.ensures, c.have.ensures) at c.in_err-add-in-NotCompared.ensures)))

pub loop-change-preserved : goal.loop-change-preserved
loop-change-preserved g c =
    let then = adds_then (region_change_rows (map (λ n. n.now) c.args.kept.now.names.items)) c.args.changes.now c.loop-change.change-index _ c.change-item.result
    c.loop-change-test.true c.change-item.is c.loop-change.invariant in
    elim c.match-change.branch [
      | in-Compared+in_ok-add_component_changes-in-Compared w ↦ then (rw (w.rows-is, w.in-Compared.is)
          (rw (w.have-is_kept.ensures, w.text.ensures.value, w.as_slice.ensures) at w.in_ok-add_component_changes-in-Compared.ensures))
      | in-NotCompared+in_ok-add-in-NotCompared w ↦ then (rw (w.rows-is, w.in-NotCompared.is)
          (rw (w.not_compared_row.ensures, w.have.ensures) at w.in_ok-add-in-NotCompared.ensures))
    ]
