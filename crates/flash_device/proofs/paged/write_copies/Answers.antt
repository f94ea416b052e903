use Rattle.std.proofs.Common.{◌≤◌, ◌+◌, ◌∙◌, IsTrue, length, replicate, take, ap, arith, rules}
use Rattle.std.proofs.lemmas.List.{length-replicate, length-take, take_all}
use Rattle.flash_device.specs.Device.{overwritten}
use Rattle.flash_device.proofs.BytesLemmas.{written-more, written-part}
use Rattle.flash_device.proofs.CopyLemmas.{Calls-piece, copies-part, OnErr-from}
use Rattle.flash_device.proofs.DeviceLemmas.{honest_still}
use Rattle.flash_device.proofs.paged.write_copies.Goals as goal

pub loop-done-preserved : goal.loop-done-preserved
loop-done-preserved g c =
    let had = c.loop-done.invariant in
    let size = c.min-size.ensures in
    let left = c.loop-done-test.true in
    let bytes = replicate c.args.n c.args.byte in
    let long = length-replicate c.args.n c.args.byte in
    let piece = copies-part _ c.loop-done.done c.min-size.result c.args.n c.args.byte c.requires.all (omega (arith, size)) (omega (arith, size, left)) in record {
      within = omega (arith, size, left);
      whole = λ more. omega (arith, size, had.whole left, more);
      calls = Calls-piece _ _ _ _ _ _ (omega (arith, size, left)) (had.whole left) had.calls c.in_ok-write_at.ensures.after.call.within;
      filled = λ h.
          let now = c.in_ok-write_at.ensures.after.written (honest_still had.calls.same_honesty h) in
          written-more _ _ _ c.args.at c.loop-done.done c.min-size.result bytes (omega (arith, left, long)) (omega (arith, left, c.requires.inside)) (had.filled h) (rw piece at now);
    }

pub returns-in_err-write_at : goal.returns-in_err-write_at
returns-in_err-write_at g c =
    let had = c.loop-done.invariant in
    let size = c.min-size.ensures in
    let left = c.loop-done-test.true in
    let bytes = replicate c.args.n c.args.byte in
    let k = length (take c.min-size.result c.args.copies.now) in
    let short : k ≤ c.min-size.result = omega (arith, length-take c.min-size.result c.args.copies.now) in
    let within : c.loop-done.done + k ≤ length bytes = omega (arith, short, size, left, length-replicate c.args.n c.args.byte) in
    let torn = λ (h : IsTrue (g.F.Flash.facts c.args.device.now).honest). c.write_at.ensures.after.torn (honest_still had.calls.same_honesty h) in
    let part = λ (h : IsTrue (g.F.Flash.facts c.args.device.now).honest).
    OnErr-from c.from_residual.result (written-part _ _ _ c.args.at c.loop-done.done k bytes (omega (arith, short, size)) within (had.filled h) (torn h)) in
    search (rules, part)

pub returns : goal.returns
returns g c =
    let had = c.loop-done.invariant in
    let bytes = replicate c.args.n c.args.byte in
    let all : length bytes ≤ c.loop-done.done = omega (arith, length-replicate c.args.n c.args.byte, c.loop-done-test.false) in
    let filled = λ (h : IsTrue (g.F.Flash.facts c.args.device.now).honest). had.filled h ∙ ap (overwritten _ c.args.at) (take_all c.loop-done.done bytes all) in
    search (rules, filled)
