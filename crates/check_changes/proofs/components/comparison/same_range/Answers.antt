use Rattle.std.proofs.Common.{◌-◌, arith}
use Rattle.check_changes.proofs.ComponentLemmas.Reads.{bytes_in-part}
use Rattle.check_changes.proofs.components.comparison.same_range.Goals as goal

pub returns-clause-same : goal.returns-clause-same
returns-clause-same g c = λ h k.
    let old = c.args.old in
    let new = c.args.new in
    let n = old.end - old.start in
    let x = bytes_in-part c.args.images.now.old_image.device.content c.args.regions.old _ c.start.result old.start n old.end c.in-Some.ensures.0 c.start.ensures (omega (arith, c.requires.old.0)) c.requires.old.1 in
    let y = bytes_in-part c.args.images.now.new_image.device.content c.args.regions.new _ c.start-2.result new.start n new.end c.in-Some-within.ensures.0 c.start-2.ensures (omega (arith, c.requires.old.0, c.requires.new.0, c.if-n-new.false)) c.requires.new.1 in
    rw y at (rw x at (c.same_bytes.ensures.same h k))
