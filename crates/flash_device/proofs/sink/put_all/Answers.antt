use Rattle.std.proofs.Common.{arith}
use Rattle.std.proofs.KnownBytes.{Appends-trans}
use Rattle.std.proofs.lemmas.List.{length-drop, take_rest}
use Rattle.std.proofs.Math.Seq.{take-add}
use Rattle.flash_device.proofs.sink.put_all.Goals as goal

pub loop-done-preserved : goal.loop-done-preserved
loop-done-preserved g c =
    let bytes = c.args.bytes.now in
    let n = c.in_ok-done.field-0 in
    let had = c.loop-done.invariant in
    let fits = c.in_ok-done.ensures.taken.1 in
    let joined = Appends-trans _ _ _ _ _ had.1 (rw (take_rest bytes c.loop-done.done) at c.in_ok-done.ensures.bytes) in (
      grind (arith, length-drop),
      rw (take-add c.loop-done.done n bytes) joined,
      omega (arith, had.2, c.put.ensures.faults),
    )
