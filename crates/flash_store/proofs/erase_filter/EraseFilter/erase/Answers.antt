use Rattle.std.proofs.Common.{arith}
use Rattle.flash_store.proofs.StoringLemmas.{Erased-more, faithful_still, SameFile-trans}
use Rattle.flash_store.proofs.erase_filter.EraseFilter.erase.Goals as goal

pub loop-at-preserved : goal.loop-at-preserved
loop-at-preserved g c =
    let had = c.loop-at.invariant in
    record {
      within = omega (arith, c.min-n.ensures, c.loop-at-test.true);
      after = SameFile-trans had.after (record { same_faith = c.write_whole.ensures.call.within.same_honesty; same_length = c.write_whole.ensures.call.within.same_length });
      erased = λ h. Erased-more _ _ c.loop-at.at c.min-n.result 65536 (omega (arith, c.min-n.ensures))
          (omega (arith, c.min-n.ensures, c.loop-at-test.true, c.len-to.ensures.length, had.after.same_length)) (had.erased h)
          (c.in_ok-write_whole.ensures.written (faithful_still had.after.same_faith h));
    }
