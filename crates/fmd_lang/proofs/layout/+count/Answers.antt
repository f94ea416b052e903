use Rattle.std.proofs.lemmas.Bool.Decides.{nat_tests}
use Rattle.std.proofs.Common.{arith}
use Rattle.fmd_lang.proofs.LayoutLemmas.{count-from, view-count}
use Rattle.fmd_lang.proofs.layout.+count.Goals as goal

pub loop-part-init : goal.loop-part-init
loop-part-init t c = rw c.deref-part-items.ensures.value (omega (arith, view-count c.args.section.now))

pub overflow_add-all : goal.overflow_add-all
overflow_add-all t c = grind (arith, nat_tests, count-from)

pub loop-part-preserved : goal.loop-part-preserved
loop-part-preserved t c =
    omega (arith, count-from c.deref-part-items.result.now c.loop-part.part-index c.part-item.result c.loop-part-test.true c.part-item.is, c.count-all.ensures, c.loop-part.invariant)
