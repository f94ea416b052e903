use Rattle.std.proofs.Common.{rules}
use Rattle.check_report.specs.ChangeRows.{component_change_row}
use Rattle.check_report.proofs.SoundRows.{adds_failed, adds_stopped_map}
use Rattle.check_report.proofs.changes.add_component_changes.Goals as goal

pub returns-in_err-add : goal.returns-in_err-add
returns-in_err-add g c = adds_failed c.from_residual.ensures.1 (adds_stopped_map (component_change_row c.args.is_kept c.args.area.now) c.args.changes.now c.loop-change.change-index
    _ c.change-item.result c.loop-change-test.true c.change-item.is c.loop-change.invariant (search rules))
