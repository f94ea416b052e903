use Rattle.std.proofs.Common.{IsTrue, arith, rules}
use Rattle.flash_device.proofs.DeviceLemmas.{honest_still}
use Rattle.cbfs_commands.proofs.RefusedEdits.{addition_refused}
use Rattle.cbfs_commands.proofs.add.add.Goals as goal

pub returns-in_err-add-clause-effect : goal.returns-in_err-add-clause-effect
returns-in_err-add-clause-effect g c =
    let source = g.S.Source.facts c.args.source.now in
    let found = c.in_ok-region.ensures in
    let after = c.in_err-add.ensures in
    let refused = λ (h : IsTrue c.args.paged.now.device.honest) (serves : IsTrue source.honest). let still = honest_still found.calls.device.calls.same_honesty h in
    addition_refused c.args.paged.now.device.content c.mapped_region.new.paged.device.content c.add.new.paged.device.content c.args.region.now source c.in_ok-region.region c.in_err-add.field-0.0 c.from_residual-in_err-add.result (found.answer h) (found.calls.device.unchanged h)
    c.from_residual-in_err-add.ensures.1 c.args.name.now c.args.kind c.args.hash c.args.spot serves (after.effect still) in
    record { calls = search rules; source_calls = search rules; no_output = search rules; spares = search rules; refused = search rules; left = λ h serves. (refused h (serves (omega arith))).0; stopped = λ h serves. (refused h (serves (omega arith))).1 }
