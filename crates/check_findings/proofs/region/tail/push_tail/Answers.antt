use Rattle.std.proofs.Common.{◌-◌, ◌/◌, [], ◌∷◌, ◌++◌, length, sym, append_assoc}
use Rattle.flash_device.specs.Regions.{bytes_in}
use Rattle.flash_device.proofs.DeviceLemmas.{honest_still}
use Rattle.check_findings.specs.RegionFindings.{tail_findings}
use Rattle.check_findings.proofs.RegionLemmas.PartNames.{entries_findings}
use Rattle.check_findings.specs.declared.region.finding.RegionFinding.TheVariants.{Tail, TailFilled}
use Rattle.check_findings.proofs.region.tail.push_tail.Goals as goal

pub returns-in_default-clause-found : goal.returns-in_default-clause-found
unfolding tail_findings
returns-in_default-clause-found g c = λ h. rw (sym (c.in_ok-filled.ensures.found h), c.in_default.is) c.in_ok-push.ensures.items

pub returns-clause-found : goal.returns-clause-found
unfolding tail_findings
returns-clause-found g c = λ h.
    let read = c.in_ok-filled.ensures.calls.read.device in
    let before = c.args.findings.now.items in
    let at = c.args.at in
    let x = bytes_in c.args.region c.args.paged.now.device.content in
    let entries = entries_findings ((length x - at) / 64) at x in
    let filled = TailFilled c.in-Some.filled ∷ [] in
    rw (sym (c.in_ok-filled.ensures.found h), c.in-Some.is)
    (rw (read.unchanged h, c.in_ok-push-2.ensures.items, c.in_ok-push.ensures.items, append_assoc (before ++ Tail at ∷ []) filled entries, append_assoc before (Tail at ∷ []) (filled ++ entries))
    at (c.push_entries.ensures.found (honest_still read.calls.same_honesty h)))
