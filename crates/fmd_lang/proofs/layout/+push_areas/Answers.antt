use Rattle.std.proofs.Common.{drop, ◌∙◌, ap, arith, length, rules}
use Rattle.std.proofs.lemmas.Bool.Decides.{nat_tests}
use Rattle.std.proofs.lemmas.Result.{err_from_is_err_and}
use Rattle.fmd_lang.specs.Table.{areas_of}
use Rattle.fmd_lang.specs.Grammar.{views}
use Rattle.fmd_lang.specs.declared.fault.FmdFault.{FmdFault}
use Rattle.std.proofs.lemmas.List.{drop_all}
use Rattle.fmd_lang.proofs.LayoutLemmas.{area-is, count-from, none-pushed, part-next, part-pushed, place-inside, row-refused}
use Rattle.fmd_lang.proofs.layout.+push_areas.Goals as goal

pub returns-in_err-places : goal.returns-in_err-places
returns-in_err-places t c =
    let refused = λ (fault : FmdFault). row-refused c.args.section.now c.args.areas.now.items c.args.at c.args.size c.len.result c.deref.result.now
    c.in_ok-row.row.items c.deref-2.result.now fault c.deref.ensures.value (search rules) c.in_ok-row.ensures c.deref-2.ensures.value in
    grind (arith, nat_tests, err_from_is_err_and, refused)

pub loop-index-init : goal.loop-index-init
loop-index-init t c =
    none-pushed c.args.section.now c.args.areas.now.items c.args.at c.args.size c.len.result c.deref.result.now c.in_ok-row.row.items
    c.deref-2.result.now c.in_ok-places.places.items c.deref.ensures.value (search rules) c.in_ok-row.ensures c.deref-2.ensures.value c.in_ok-places.ensures

pub index-place-requires : goal.index-place-requires
index-place-requires t c = omega (arith, c.loop-index.invariant.len, ap length c.deref-part-items.ensures.value)

pub overflow_add-start : goal.overflow_add-start
overflow_add-start t c =
    omega (
      arith,
      place-inside c.args.size c.in_ok-places.places.items c.loop-index.index c.index-place.result.now c.loop-index.invariant.inside
          (omega (arith, c.loop-index.invariant.len, ap length c.deref-part-items.ensures.value)) c.index-place.ensures,
    )

pub push_areas-requires : goal.push_areas-requires
push_areas-requires t c =
    let there = rw c.deref-part-items.ensures.value at c.loop-index-test.true in
    let part = rw c.deref-part-items.ensures.value at c.part-item.is in
    let inside = place-inside c.args.size c.in_ok-places.places.items c.loop-index.index c.index-place.result.now c.loop-index.invariant.inside
    (omega (arith, there, c.loop-index.invariant.len)) c.index-place.ensures in
    let count = count-from _ c.loop-index.index c.part-item.result there part in
    (omega (arith, c.decreases, c.loop-index.invariant.count, count), (omega (arith, c.loop-index.invariant.count, count, c.in_ok-push.ensures.len), omega arith))

pub returns-in_err-push_areas : goal.returns-in_err-push_areas
returns-in_err-push_areas t c =
    let here = part-next c.index-place.result.now c.part-item.result c.loop-index.invariant (rw (← c.deref-part-items.ensures.value) c.loop-index-test.true)
    (rw (← c.deref-part-items.ensures.value) c.part-item.is) c.index-place.ensures in
    grind (arith, nat_tests, err_from_is_err_and, area-is)

pub loop-index-preserved : goal.loop-index-preserved
loop-index-preserved t c =
    let q = c.index-place.result.now in
    let s = c.part-item.result in
    part-pushed q s c.push.new.self.items c.loop-index.invariant (rw (← c.deref-part-items.ensures.value) c.loop-index-test.true)
    (rw (← c.deref-part-items.ensures.value) c.part-item.is) c.index-place.ensures (rw (area-is c.args.at q s) (search rules)) c.in_ok-push_areas.ensures

pub returns : goal.returns
returns t c =
    let over = rw c.deref-part-items.ensures.value at c.loop-index-test.false in
    let left = drop c.loop-index.index c.in_ok-places.places.items in
    c.loop-index.invariant.items ∙ ap (λ ss. areas_of c.args.at (views ss) c.loop-index.areas.items left) (drop_all c.loop-index.index _ over)
