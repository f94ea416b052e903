use Rattle.std.proofs.Common.{sym}
use Rattle.flash_device.proofs.DeviceLemmas.{honest_still}
use Rattle.check_findings.specs.Areas.{image_areas}
use Rattle.check_findings.proofs.areas.image_map.Goals as goal

pub returns-in_default-clause-areas : goal.returns-in_default-clause-areas
unfolding image_areas
returns-in_default-clause-areas g c = λ h. rw (sym (c.in_ok-found.ensures.found h), c.in_default.is) c.new-areas.ensures.items

pub returns-clause-areas : goal.returns-clause-areas
unfolding image_areas
returns-clause-areas g c = λ h.
    let search = c.find_fmap.ensures.calls.read.device in
    rw (sym (c.in_ok-found.ensures.found h), c.in-Some.is) (rw (search.unchanged h) at (c.in_ok-areas.ensures.areas (honest_still search.calls.same_honesty h)))
