use Rattle.std.proofs.lemmas.Result.{err_from_is_err_and}
use Rattle.flash_device.proofs.DeviceLemmas.{honest_still}
use Rattle.cbfs_anchor.proofs.Seals.{no_place_with, place_inspected_with}
use Rattle.cbfs_anchor.proofs.known.inspect_with_map.Goals as goal

pub returns-in_err-place-clause-report : goal.returns-in_err-place-clause-report
returns-in_err-place-clause-report g c = λ h.
    let told = err_from_is_err_and c.from_residual.result c.from_residual.ensures.1 in
    rw (told.1, told.2) (no_place_with c.args.demand c.args.paged.now.device.content c.args.map.now c.in_err-place.field-0.0 (c.in_err-place.ensures.place h))

pub returns-clause-report : goal.returns-clause-report
returns-clause-report g c = λ h.
    let first = c.in_ok-place.ensures.calls.device in
    let report = rw (first.unchanged h) at (c.inspect_place.ensures.report (honest_still first.calls.same_honesty h)) in
    place_inspected_with c.args.demand c.args.paged.now.device.content c.args.map.now c.in_ok-place.place c.inspect_place.result (c.in_ok-place.ensures.place h) report
