use Rattle.std.proofs.Common.{◌∙◌, length, ap, sym, arith}
use Rattle.flash_device.proofs.DeviceLemmas.{honest_still}
use Rattle.check_findings.proofs.ImageLemmas.Regions.{joined, regions_of, found_image}
use Rattle.check_findings.proofs.image.image.check_image.Goals as goal

pub returns-clause-regions : goal.returns-clause-regions
returns-clause-regions g c =
    let head = joined _ _ _ _ _ c.in_ok-findings.ensures c.in_ok-anchors.ensures c.in_ok-append.ensures.items in
    let is = regions_of _ _ c.deref-5.result.now _ _ c.in_ok-regions.regions.items _ _ head c.in_ok-append-2.ensures.items c.in_ok-push_missing.ensures in
    let same = c.wanted_areas.ensures.calls.device.calls.same_length ∙ c.check_anchor.ensures.calls.device.calls.same_length ∙ c.check_map.ensures.calls.device.calls.same_length in
    let had = c.in_ok-regions.ensures.checked in
    rw (is, sym same) (record {
      count = omega (arith, had.count, c.in_ok-wanted.ensures.count, ap length c.deref-3.ensures.value, ap length c.deref-4.ensures.value, c.in_ok-map.ensures.fits);
      inside = had.inside;
      total = had.total;
    })

pub returns-clause-findings : goal.returns-clause-findings
returns-clause-findings g c = λ h.
    let map = c.check_map.ensures.calls.device in
    let here = honest_still map.calls.same_honesty h in
    let anchor = c.check_anchor.ensures.calls.device in
    let there = honest_still anchor.calls.same_honesty here in
    let checked = (rw (map.unchanged h) at (c.in_ok-anchor.ensures.checked here)) (c.in_ok-map.ensures.found h) in
    let wanted = c.wanted_areas.ensures.calls.device in
    let named = rw (anchor.unchanged here, map.unchanged h, c.deref-3.ensures.value, c.in_ok-set.ensures) at (c.in_ok-wanted.ensures.areas there) in
    let found = rw (wanted.unchanged there, anchor.unchanged here, map.unchanged h, c.deref-4.ensures.value, named, c.in_ok-set.ensures) at (c.in_ok-regions.ensures.found (honest_still wanted.calls.same_honesty there)) in
    let head = joined _ _ _ _ _ c.in_ok-findings.ensures c.in_ok-anchors.ensures c.in_ok-append.ensures.items in
    found_image _ _ _ _ _ _ c.deref-5.result.now _ c.in_ok-regions.regions.items _ _ head c.in_ok-append-2.ensures.items c.in_ok-push_missing.ensures
    (c.deref.ensures.value ∙ c.in_ok-map.ensures.answer h) (c.deref-2.ensures.value ∙ checked.findings) checked.anchor (c.deref-5.ensures.value ∙ c.in_ok-map.ensures.areas h) (rw c.deref-5.ensures.value found)

pub returns-clause-anchor : goal.returns-clause-anchor
returns-clause-anchor g c = λ h.
    let map = c.check_map.ensures.calls.device in
    let here = honest_still map.calls.same_honesty h in
    let checked = (rw (map.unchanged h) at (c.in_ok-anchor.ensures.checked here)) (c.in_ok-map.ensures.found h) in
    checked.anchor
