use Rattle.std.proofs.lemmas.Result.{err_from_is_err_and}
use Rattle.flash_device.proofs.DeviceLemmas.{honest_still}
use Rattle.cbfs_anchor.proofs.Seals.{no_anchor, inspected}
use Rattle.cbfs_anchor.proofs.sealing.inspect_place.Goals as goal

pub returns-in_err-anchor-clause-report : goal.returns-in_err-anchor-clause-report
returns-in_err-anchor-clause-report g c = λ h.
    let told = err_from_is_err_and c.from_residual.result c.from_residual.ensures.1 in
    rw (told.1, told.2) (no_anchor c.args.demand c.args.paged.now.device.content c.args.place.now c.in_err-anchor.field-0.0 (c.in_err-anchor.ensures.anchor h))

pub returns-clause-report : goal.returns-clause-report
returns-clause-report g c = λ h.
    let first = c.in_ok-anchor.ensures.calls.device in
    let report = rw (first.unchanged h) at (c.inspect_anchor.ensures.report (honest_still first.calls.same_honesty h)) in
    inspected c.args.demand c.args.paged.now.device.content c.args.place.now c.in_ok-anchor.anchor c.inspect_anchor.result (c.in_ok-anchor.ensures.anchor h) report
