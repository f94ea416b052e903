use Rattle.std.proofs.Common.{inr, sym, ap, arith, ◌∙◌, ◌+◌, Ok}
use Rattle.flash_device.proofs.DeviceLemmas.{honest_still}
use Rattle.cbfs_walk.proofs.Parts.{length-region}
use Rattle.cbfs_anchor.specs.declared.anchor.Anchor.{Anchor}
use Rattle.cbfs_anchor.specs.Algorithms.{algorithm_numbered}
use Rattle.cbfs_anchor.proofs.Magics.{anchor_none, anchor_short, anchor_unknown, anchor_cut, anchor_found}
use Rattle.cbfs_anchor.proofs.anchor.find_anchor.Goals as goal

pub overflow_add-place : goal.overflow_add-place
overflow_add-place g c = let inside = rw c.in-Some.is at c.in_ok-place.ensures.inside in omega (arith, inside, c.requires.inside, c.requires.below)

pub returns-in_default-clause-anchor : goal.returns-in_default-clause-anchor
returns-in_default-clause-anchor g c = λ h. inr (anchor_none c.args.range.start _ (rw c.in_default.is at (c.in_ok-place.ensures.magic.value h)))

pub returns-then-size-place-clause-anchor : goal.returns-then-size-place-clause-anchor
returns-then-size-place-clause-anchor g c = λ h.
    inr (anchor_short c.args.range.start _ c.in-Some.place (rw c.in-Some.is at (c.in_ok-place.ensures.magic.value h)) (omega (arith, length-region c.args.range c.args.paged.now.device.content c.requires.inside, c.size.ensures, c.if-size-place.true)))

pub returns-in_default-numbered-clause-anchor : goal.returns-in_default-numbered-clause-anchor
returns-in_default-numbered-clause-anchor g c = λ h.
    let calls = c.in_ok-place.ensures.magic.passed.read.device in
    let byte = rw (calls.unchanged h) at (c.in_ok-number.ensures.value (honest_still calls.calls.same_honesty h)) in
    inr (anchor_unknown c.args.range.start _ c.in-Some.place (rw c.in-Some.is at (c.in_ok-place.ensures.magic.value h)) (omega (arith, length-region c.args.range c.args.paged.now.device.content c.requires.inside, c.size.ensures, c.if-size-place.false))
    (sym c.in_default-numbered.is ∙ c.numbered.ensures ∙ ap algorithm_numbered (c.from.ensures ∙ byte)))

pub returns-then-size-place-2-clause-anchor : goal.returns-then-size-place-2-clause-anchor
returns-then-size-place-2-clause-anchor g c = λ h.
    let calls = c.in_ok-place.ensures.magic.passed.read.device in
    let byte = rw (calls.unchanged h) at (c.in_ok-number.ensures.value (honest_still calls.calls.same_honesty h)) in
    let size = length-region c.args.range c.args.paged.now.device.content c.requires.inside in
    inr (anchor_cut c.args.range.start _ c.in-Some.place (rw c.in-Some.is at (c.in_ok-place.ensures.magic.value h)) c.in-Some-numbered.algorithm (omega (arith, size, c.size.ensures, c.if-size-place.false))
    (sym c.in-Some-numbered.is ∙ c.numbered.ensures ∙ ap algorithm_numbered (c.from.ensures ∙ byte)) (omega (arith, size, c.size-2.ensures, c.digest_len.ensures.len, c.if-size-place-2.true)))

pub returns-clause-anchor : goal.returns-clause-anchor
returns-clause-anchor g c = λ h.
    let calls = c.in_ok-place.ensures.magic.passed.read.device in
    let byte = rw (calls.unchanged h) at (c.in_ok-number.ensures.value (honest_still calls.calls.same_honesty h)) in
    let size = length-region c.args.range c.args.paged.now.device.content c.requires.inside in
    inr (ap (λ n. Ok (let a : Anchor = record { at = n + c.in-Some.place; algorithm = c.in-Some-numbered.algorithm } in a)) c.start.ensures
    ∙ anchor_found c.args.range.start _ c.in-Some.place (rw c.in-Some.is at (c.in_ok-place.ensures.magic.value h)) c.in-Some-numbered.algorithm (omega (arith, size, c.size.ensures, c.if-size-place.false))
    (sym c.in-Some-numbered.is ∙ c.numbered.ensures ∙ ap algorithm_numbered (c.from.ensures ∙ byte)) (omega (arith, size, c.size-2.ensures, c.digest_len.ensures.len, c.if-size-place-2.false)))
