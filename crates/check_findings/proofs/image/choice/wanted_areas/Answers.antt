use Rattle.std.proofs.Common.{◌≤◌, ◌∙◌, [], get_or, Bool, length, ap, arith}
use Rattle.check_findings.specs.declared.areas.NumberedArea.{NumberedArea}
use Rattle.flash_device.proofs.DeviceLemmas.{honest_still}
use Rattle.flash_device.proofs.WindowLemmas.{HasRead-then}
use Rattle.check_findings.specs.Areas.{area_end}
use Rattle.check_findings.specs.ImageFindings.{has_smaller, is_named_in, is_wanted}
use Rattle.check_findings.proofs.ImageLemmas.Regions.{filtered, wanted_more}
use Rattle.check_findings.proofs.image.choice.wanted_areas.Goals as goal

pub loop-area-preserved : goal.loop-area-preserved
loop-area-preserved g c =
    let had = c.loop-area.invariant in
    let add = c.in_ok-is_wanted.ensures in
    let device = had.read.device in
    let content = c.args.paged.now.device.content in
    let more = wanted_more (λ a. area_end a.area ≤ length content) _ _ _ _ c.in_ok-push_if.ensures had.inside (rw device.calls.same_length at add.inside) in
    record {
      read = HasRead-then _ 1 0 _ _ _ had.read add.calls.read;
      inside = more.0;
      count = omega (arith, had.count, more.1);
      areas = λ h.
          let is = (rw (device.unchanged h) at (add.wanted (honest_still device.calls.same_honesty h))) ∙ ap (λ (f : NumberedArea → Bool). is_wanted content (is_named_in c.args.expected.now) f (get_or c.args.areas.now c.loop-area.area-index (record { number = 0; area = record { offset = 0; size = 0; name = []; flags = 0 } }))) c.in_ok-starts.ensures in
          filtered (is_wanted content (is_named_in c.args.expected.now) (has_smaller c.args.areas.now)) c.args.areas.now c.loop-area.area-index _ _ _ c.loop-area-test.true (had.areas h) (rw is at c.in_ok-push_if.ensures);
    }
