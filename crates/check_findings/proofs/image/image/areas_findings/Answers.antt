use Rattle.std.proofs.Common.{◌≤◌, arith}
use Rattle.flash_device.proofs.DeviceLemmas.{honest_still}
use Rattle.flash_device.proofs.WindowLemmas.{HasRead-then, HasRead-within}
use Rattle.check_findings.proofs.ImageLemmas.Regions.{checked_more, found_more}
use Rattle.check_findings.proofs.image.image.areas_findings.Goals as goal

pub loop-area-preserved : goal.loop-area-preserved
loop-area-preserved g c =
    let had = c.loop-area.invariant in
    let add = c.in_ok-finding.ensures in
    let device = had.read.device in
    let fewer : c.area_finding.new.left ≤ c.loop-area.left = grind (arith, add.left) in
    record {
      read = HasRead-within _ _ 0 _ _ (omega (arith, had.checked.total, add.left, fewer)) (HasRead-then _ _ 0 _ _ _ had.read add.calls);
      checked = rw (c.in_ok-push.ensures.items, add.left) (checked_more _ c.loop-area.area-index c.loop-area.left _ c.in_ok-finding.finding c.loop-area.findings.items (c.requires c.loop-area.area-index _ c.loop-area-test.true) add.area had.checked);
      found = λ h. rw add.left (found_more _ c.args.anchor _ c.loop-area.left c.loop-area.area-index c.args.areas.now _ c.in_ok-finding.finding _ _ _ c.loop-area-test.true c.in_ok-push.ensures.items
          (rw (device.unchanged h) at (add.found (honest_still device.calls.same_honesty h))) (had.found h));
    }
