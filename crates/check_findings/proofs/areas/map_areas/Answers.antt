use Rattle.std.proofs.Common.{◌+◌, [], ◌∷◌, length, ap, arith, length-append}
use Rattle.flash_device.proofs.DeviceLemmas.{honest_still}
use Rattle.flash_device.proofs.WindowLemmas.{HasRead-then}
use Rattle.check_findings.proofs.MapAreas.{areas-more}
use Rattle.check_findings.proofs.areas.map_areas.Goals as goal

pub loop-number-preserved : goal.loop-number-preserved
loop-number-preserved g c =
    let map = c.args.map.now in
    let had = c.loop-number.invariant in
    let image = c.args.paged.now.device.content in
    record {
      read = HasRead-then _ 1 0 _ _ _ had.read c.in_ok-area.ensures.calls.read;
      count = omega (arith, ap length c.in_ok-push.ensures.items, length-append c.loop-number.areas.items (record { number = c.loop-number.number; area = c.in_ok-area.area } ∷ []), had.count);
      areas = λ h.
          let is = rw (had.read.device.unchanged h) at (c.in_ok-area.ensures.area (honest_still had.read.device.calls.same_honesty h)) in
          areas-more image (map.at + 56) c.loop-number.number c.loop-number.areas.items _ c.in_ok-area.area is c.in_ok-push.ensures.items (had.areas h);
    }

pub returns-clause-areas : goal.returns-clause-areas
returns-clause-areas g c = grind arith
