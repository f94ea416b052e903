use Rattle.std.proofs.Common.{◌≡◌, ◌∙◌, ◌+◌, ◌-◌, ◌*◌, arith, ap}
use Rattle.flash_device.proofs.DeviceLemmas.{honest_still}
use Rattle.flash_device.proofs.WindowLemmas.{HasRead-then}
use Rattle.cbfs_commands.specs.MapNotes.{is_other_in}
use Rattle.cbfs_commands.proofs.OtherAreas.{any_from, any_found, any_more, any_none}
use Rattle.cbfs_commands.proofs.region_notes.has_other_in.Goals as goal

pub returns-then-is_other_in-clause-has : goal.returns-then-is_other_in-clause-has
returns-then-is_other_in-clause-has g c = λ h.
    let had = c.loop-i.invariant in
    let image = c.args.paged.now.device.content in
    let read = rw (had.0.device.unchanged h) at (c.in_ok-area.ensures.area (honest_still had.0.device.calls.same_honesty h)) in
    any_found (is_other_in c.args.region.now c.args.name.now) image c.args.map.now.head.nareas c.loop-i.i _ _ c.loop-i-test.true read c.if-is_other_in.ensures ∙ had.1 h

pub loop-i-preserved : goal.loop-i-preserved
loop-i-preserved g c =
    let had = c.loop-i.invariant in
    let image = c.args.paged.now.device.content in
    let is = is_other_in c.args.region.now c.args.name.now in
    let next : c.args.map.now.at + 56 + 42 * (c.loop-i.i + 1) ≡ c.args.map.now.at + 56 + 42 * c.loop-i.i + 42 = omega arith in (
      HasRead-then _ 1 0 _ _ _ had.0 c.in_ok-area.ensures.calls.read,
      λ h.
          let read = rw (had.0.device.unchanged h) at (c.in_ok-area.ensures.area (honest_still had.0.device.calls.same_honesty h)) in
          ap (λ p. any_from is image (c.args.map.now.head.nareas - (c.loop-i.i + 1)) p) next
          ∙ any_more is image c.args.map.now.head.nareas c.loop-i.i _ _ c.loop-i-test.true read c.if-is_other_in.ensures ∙ had.1 h,
    )

pub returns-clause-has : goal.returns-clause-has
returns-clause-has g c = λ h.
    any_none (is_other_in c.args.region.now c.args.name.now) c.args.paged.now.device.content c.args.map.now.head.nareas c.loop-i.i _ c.loop-i-test.false ∙ c.loop-i.invariant.1 h
