use Rattle.std.proofs.Common.{◌∙◌, ◌+◌, ◌*◌, arith, ap}
use Rattle.std.proofs.Common.{◌≡◌, ◌-◌}
use Rattle.flash_device.proofs.DeviceLemmas.{honest_still}
use Rattle.flash_map.proofs.AreaLemmas.{named_from, area_found, area_more, area_none}
use Rattle.flash_device.proofs.WindowLemmas.{HasRead-then}
use Rattle.flash_map.proofs.search.area_named.Goals as goal

pub returns-then-name_is-clause-first : goal.returns-then-name_is-clause-first
returns-then-name_is-clause-first g c = λ h.
    let had = c.loop-i.invariant in
    let image = c.args.paged.now.device.content in
    let read = rw (had.0.device.unchanged h) at (c.in_ok-area.ensures.area (honest_still had.0.device.calls.same_honesty h)) in
    area_found image c.args.name.now c.args.map.now.head.nareas c.loop-i.i _ _ c.loop-i-test.true read c.if-name_is.ensures ∙ had.1 h

pub loop-i-preserved : goal.loop-i-preserved
loop-i-preserved g c =
    let had = c.loop-i.invariant in
    let image = c.args.paged.now.device.content in
    let next : c.args.map.now.at + 56 + 42 * (c.loop-i.i + 1) ≡ c.args.map.now.at + 56 + 42 * c.loop-i.i + 42 = omega arith in (
      HasRead-then _ 1 0 _ _ _ had.0 c.in_ok-area.ensures.calls.read,
      λ h.
          let read = rw (had.0.device.unchanged h) at (c.in_ok-area.ensures.area (honest_still had.0.device.calls.same_honesty h)) in
          ap (λ p. named_from image c.args.name.now (c.args.map.now.head.nareas - (c.loop-i.i + 1)) p) next
          ∙ area_more image c.args.name.now c.args.map.now.head.nareas c.loop-i.i _ _ c.loop-i-test.true read c.if-name_is.ensures ∙ had.1 h,
    )

pub returns-clause-first : goal.returns-clause-first
returns-clause-first g c = λ h.
    area_none c.args.paged.now.device.content c.args.name.now c.args.map.now.head.nareas c.loop-i.i _ c.loop-i-test.false ∙ c.loop-i.invariant.1 h
