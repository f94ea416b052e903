use Rattle.std.proofs.Common.{inr, sym, ◌∙◌}
use Rattle.std.proofs.lemmas.Result.{err_from_is_err_and}
use Rattle.flash_device.proofs.DeviceLemmas.{honest_still}
use Rattle.cbfs_anchor.proofs.Places.{place_without_map, place_refused, place_found}
use Rattle.cbfs_anchor.proofs.place.find_place.Goals as goal

pub returns-in_default-clause-place : goal.returns-in_default-clause-place
returns-in_default-clause-place g c = λ h. inr (place_without_map _ (sym c.in_default.is ∙ c.in_ok-map.ensures.found h))

pub returns-in_err-coreboot-clause-place : goal.returns-in_err-coreboot-clause-place
returns-in_err-coreboot-clause-place g c = λ h.
    let told = err_from_is_err_and c.from_residual-in_err-coreboot.result c.from_residual-in_err-coreboot.ensures.1 in
    let calls = c.find_fmap.ensures.calls.read.device in
    let range = rw (calls.unchanged h) at (c.in_err-coreboot.ensures.range (honest_still calls.calls.same_honesty h)) in
    rw (told.1, told.2) (place_refused _ c.in-Some.map _ (rw c.in-Some.is at (c.in_ok-map.ensures.found h)) range)

pub returns-clause-place : goal.returns-clause-place
returns-clause-place g c = λ h.
    let calls = c.find_fmap.ensures.calls.read.device in
    let still = honest_still calls.calls.same_honesty h in
    let more = c.in_ok-coreboot.ensures.calls.device in
    let range = rw (calls.unchanged h) at (c.in_ok-coreboot.ensures.range still) in
    let place = rw (more.unchanged still, calls.unchanged h) at (c.place_by.ensures.place (honest_still more.calls.same_honesty still)) in
    place_found _ c.in-Some.map c.in_ok-coreboot.coreboot _ (rw c.in-Some.is at (c.in_ok-map.ensures.found h)) range place
