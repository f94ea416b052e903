use Rattle.std.proofs.Common.{IsTrue, rules}
use Rattle.flash_device.proofs.DeviceLemmas.{honest_still}
use Rattle.cbfs_commands.proofs.RefusedEdits.{removal_refused}
use Rattle.cbfs_commands.proofs.remove.remove.Goals as goal

pub returns-in_err-remove-clause-effect : goal.returns-in_err-remove-clause-effect
returns-in_err-remove-clause-effect g c = λ source.
    let found = c.in_ok-region.ensures in
    let after = c.in_err-remove.ensures in
    let refused = λ (h : IsTrue c.args.paged.now.device.honest). let still = honest_still found.calls.device.calls.same_honesty h in
    removal_refused c.args.paged.now.device.content c.mapped_region.new.paged.device.content c.remove.new.paged.device.content c.args.region.now source c.in_ok-region.region c.in_err-remove.field-0.0 c.from_residual-in_err-remove.result (found.answer h) (found.calls.device.unchanged h)
    c.from_residual-in_err-remove.ensures.1 c.args.name.now (after.effect still) in
    record { calls = search rules; source_calls = search rules; no_output = search rules; spares = search rules; refused = search rules; left = λ h serves. (refused h).0; stopped = λ h serves. (refused h).1 }
