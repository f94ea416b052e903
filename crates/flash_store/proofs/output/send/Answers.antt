use Rattle.std.proofs.Common.{arith}
use Rattle.std.proofs.KnownBytes.{Appends-trans}
use Rattle.std.proofs.lemmas.List.{take_rest}
use Rattle.std.proofs.Math.Seq.{take-add}
use Rattle.flash_store.proofs.StoringLemmas.{length-rest}
use Rattle.flash_store.proofs.output.send.Goals as goal

pub loop-done-preserved : goal.loop-done-preserved
loop-done-preserved g c =
    let bytes = c.args.bytes.now in
    let n = c.in-Ok.n in
    let had = c.loop-done.invariant in
    let joined = Appends-trans _ _ _ _ _ had.sent (rw (take_rest bytes c.loop-done.done) at c.in-Ok.ensures.bytes) in
    record {
      within = omega (arith, rw (length-rest bytes c.loop-done.done) at c.in-Ok.ensures.taken.1, had.within);
      sent = rw (take-add c.loop-done.done n bytes) joined;
      faults = omega (arith, had.faults, c.put.ensures.faults);
    }
