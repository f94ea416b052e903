use Rattle.std.proofs.Common.{◌≡◌, ◌∙◌, ◌-◌, ap, length, arith}
use Rattle.flash_store.proofs.StoringLemmas.{Read-more, length-ended, length-rest, faithful_still, SameBytes-trans}
use Rattle.flash_store.proofs.transfer.read_whole.Goals as goal

pub loop-done-preserved : goal.loop-done-preserved
loop-done-preserved g c =
    let had = c.loop-done.invariant in
    let out = c.loop-done.out in
    let done = c.loop-done.done in
    let size : length c.read_again.new.out ≡ length out - done = c.read_again.auto.out ∙ length-rest out done in
    record {
      within = omega (arith, rw (length-rest out done) at c.in_ok-done.ensures.after.short, had.within, length-ended out c.read_again.new.out done had.within size);
      after = SameBytes-trans had.after c.read_again.ensures.after.after;
      read = λ h. Read-more out c.read_again.new.out _ c.args.at done c.in_ok-done.field-0 had.within size (had.read h)
          (rw (ap (λ f. f.content) (had.after.unchanged h)) at (c.in_ok-done.ensures.after.read (faithful_still had.after.same.same_faith h)));
    }
