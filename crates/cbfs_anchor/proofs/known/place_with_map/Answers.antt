use Rattle.std.proofs.lemmas.Result.{err_from_is_err_and}
use Rattle.flash_device.proofs.DeviceLemmas.{honest_still}
use Rattle.cbfs_anchor.proofs.Places.{with_refused, with_found}
use Rattle.cbfs_anchor.proofs.known.place_with_map.Goals as goal

pub returns-in_err-coreboot-clause-place : goal.returns-in_err-coreboot-clause-place
returns-in_err-coreboot-clause-place g c = λ h.
    let told = err_from_is_err_and c.from_residual.result c.from_residual.ensures.1 in
    rw (told.1, told.2) (with_refused _ c.args.map.now _ (c.in_err-coreboot.ensures.range h))

pub returns-clause-place : goal.returns-clause-place
returns-clause-place g c = λ h.
    let more = c.in_ok-coreboot.ensures.calls.device in
    let place = rw (more.unchanged h) at (c.place_by.ensures.place (honest_still more.calls.same_honesty h)) in
    with_found _ c.args.map.now c.in_ok-coreboot.coreboot _ (c.in_ok-coreboot.ensures.range h) place
