use Rattle.std.proofs.Common.{◌≡◌, ◌∙◌, ℕ, ◌+◌, List, length, Option, Some, refl, rules, sym}
use Rattle.flash_map.specs.declared.search.FoundMap.{FoundMap}
use Rattle.flash_map.specs.Fmap.{found_from, found_in}
use Rattle.flash_device.proofs.DeviceLemmas.{honest_still}
use Rattle.check_findings.specs.declared.areas.NumberedArea.{NumberedArea}
use Rattle.check_findings.specs.declared.map.finding.MapFinding.{MapFinding}
use Rattle.check_findings.specs.MapFindings.{findings_of, map_findings}
use Rattle.check_findings.specs.Areas.{image_areas}
use Rattle.check_findings.proofs.map.checked_map.check_map.Goals as goal
use Rattle.check_findings.proofs.map.checked_map.check_map.Goals.{in-Some+in_ok-next-in-Some+in_ok-findings-in-Some, in-None+in_ok-findings-in-None}

of_map : (image : List ℕ) (all : List MapFinding) (map : FoundMap) (next : Option FoundMap) (n : ℕ) (areas : List NumberedArea) → Some map ≡ found_in image → next ≡ found_from (map.at + 1) image → n ≡ length image
    → areas ≡ image_areas image → all ≡ findings_of n map next areas → all ≡ map_findings image
unfolding map_findings image_areas
of_map image all map next n areas found above long listed same = let here = rw (sym found) at listed in rw (sym found, same, above, long, here) refl

pub returns-clause-answer : goal.returns-clause-answer
unfolding map_findings
returns-clause-answer g c = λ h.
    let map = c.image_map.ensures.calls.device in
    let found = c.in_ok-found.ensures.found h in
    elim c.match-found.branch [
      | in-Some+in_ok-next-in-Some+in_ok-findings-in-Some w ↦ rw w.findings-is (of_map _ _ w.in-Some.map _ _ _ (sym w.in-Some.is ∙ found) (rw (map.unchanged h) at (w.in_ok-next-in-Some.ensures.found (honest_still map.calls.same_honesty h)))
          c.len-len.ensures.length (w.deref.ensures.value ∙ c.in_ok-found.ensures.areas h) w.in_ok-findings-in-Some.ensures)
      | in-None+in_ok-findings-in-None w ↦ rw (w.findings-is, sym found, w.in-None.is) (search rules)
    ]
