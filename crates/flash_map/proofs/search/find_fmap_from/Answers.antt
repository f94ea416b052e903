use Rattle.std.proofs.Common.{◌+◌, ◌≤◌, length, arith}
use Rattle.flash_map.proofs.FmapLemmas.{SearchedTo-part, SearchedTo-signature, SearchedTo-table, found_none, head_none}
use Rattle.flash_map.proofs.search.find_fmap_from.Goals as goal

pub loop-place-preserved : goal.loop-place-preserved
loop-place-preserved g c =
    let size = c.min-size.ensures in
    let len = c.len-len.ensures.length in
    let inside : c.loop-place.place + c.min-size.result ≤ length c.args.paged.now.device.content = omega (arith, size, len, c.loop-place-test.true) in
    SearchedTo-part _ _ _ c.args.from c.loop-place.place c.min-size.result inside (omega (arith, size, c.loop-place-test.true)) c.loop-place.invariant c.in_ok-at.ensures.calls.read (rw c.in-None.is at c.in_ok-at.ensures.first)

pub loop-place-preserved-in-Some : goal.loop-place-preserved-in-Some
loop-place-preserved-in-Some g c =
    let at = c.in-Some.at in
    let bounds = rw c.in-Some.is at c.in_ok-at.ensures.within in
    let size = c.min-size.ensures in
    let len = c.len-len.ensures.length in
    let inside : at + 8 ≤ length c.args.paged.now.device.content = omega (arith, size, len, bounds.1, c.loop-place-test.true) in
    SearchedTo-signature _ _ _ _ c.args.from c.loop-place.place at _ inside bounds.0 c.loop-place.invariant c.in_ok-at.ensures.calls.read c.in_ok-head-in-Some.ensures.calls.read
    (rw c.in-Some.is at c.in_ok-at.ensures.first) (λ h. head_none _ (rw c.in_default.is at (c.in_ok-head-in-Some.ensures.head h)))

pub returns-in-Some-2-clause-found : goal.returns-in-Some-2-clause-found
returns-in-Some-2-clause-found g c =
    SearchedTo-table _ _ _ c.args.from c.loop-place.place c.in-Some.at _ _ c.loop-place.invariant c.in_ok-at.ensures.calls.read (rw c.in-Some.is at c.in_ok-at.ensures.first)
    (λ k. rw c.in-Some-2.is at (c.in_ok-head-in-Some.ensures.head k))

pub returns-clause-found : goal.returns-clause-found
returns-clause-found g c = λ h.
    found_none _ c.args.from c.loop-place.place c.loop-place.invariant.above c.loop-place.invariant.within (omega (arith, c.loop-place-test.false, c.len-len.ensures.length)) (c.loop-place.invariant.none h)
