use Rattle.std.proofs.lemmas.Bool.Decides.{nat_tests}
use Rattle.std.proofs.Common.{arith}
use Rattle.std.proofs.lemmas.List.{append-nil, drop_all}
use Rattle.fmd_lang.proofs.LayoutLemmas.{count-from, sibling-pushed}
use Rattle.fmd_lang.proofs.layout.siblings.Goals as goal

pub count-number-requires : goal.count-number-requires
count-number-requires c = grind (arith, nat_tests, count-from)

pub overflow_add-number : goal.overflow_add-number
overflow_add-number c = grind (arith, nat_tests, count-from)

pub loop-part-preserved : goal.loop-part-preserved
loop-part-preserved c =
    rw (c.in_ok-push.ensures.items, c.count-number.ensures)
    (sibling-pushed c.loop-part.row.items c.loop-part.number _ c.args.parts.now c.part-item.result c.loop-part.invariant c.loop-part-test.true c.part-item.is)

pub returns : goal.returns
returns c = grind (arith, nat_tests, drop_all, append-nil)
