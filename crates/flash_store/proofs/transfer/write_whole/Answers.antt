use Rattle.std.proofs.Common.{◌+◌, ◌≤◌, ◌∙◌, IsTrue, length, ap, arith, rules}
use Rattle.std.proofs.lemmas.List.{take_rest, take_all}
use Rattle.flash_device.specs.Device.{overwritten}
use Rattle.flash_device.proofs.BytesLemmas.{written-more, written-outside, written-torn}
use Rattle.flash_store.proofs.StoringLemmas.{faithful_still, SameFile-trans, length-rest}
use Rattle.flash_store.proofs.transfer.write_whole.Goals as goal

pub loop-done-preserved : goal.loop-done-preserved
loop-done-preserved g c =
    let had = c.loop-done.invariant in
    let bytes = c.args.bytes.now in
    let done = c.loop-done.done in
    let n = c.in_ok-done.field-0 in
    let within : done + n ≤ length bytes = omega (arith, rw (length-rest bytes done) at c.in_ok-done.ensures.after.short, had.within) in
    record {
      within = within;
      after = SameFile-trans had.after c.write_again.ensures.after.after;
      written = λ h.
          let now = c.in_ok-done.ensures.after.written (faithful_still had.after.same_faith h) in
          written-more _ _ _ c.args.at done n bytes had.within (omega (arith, c.requires, had.within)) (had.written h) (rw (take_rest bytes done) at now);
    }

pub returns-in_err-done : goal.returns-in_err-done
returns-in_err-done g c =
    let had = c.loop-done.invariant in
    let bytes = c.args.bytes.now in
    let torn = λ (h : IsTrue (g.S.Storage.facts c.args.storage.now).faithful).
    let torn = c.write_again.ensures.after.torn (faithful_still had.after.same_faith h) in
    written-torn _ _ _ c.args.at c.loop-done.done _ bytes (omega (arith, length-rest bytes c.loop-done.done, had.within)) (omega (arith, c.requires)) (had.written h) torn in
    search (rules, torn)

pub returns : goal.returns
returns g c =
    let had = c.loop-done.invariant in
    let bytes = c.args.bytes.now in
    let written = λ (h : IsTrue (g.S.Storage.facts c.args.storage.now).faithful). had.written h ∙ ap (overwritten _ c.args.at) (take_all c.loop-done.done bytes c.loop-done-test.false) in
    let torn = λ (h : IsTrue (g.S.Storage.facts c.args.storage.now).faithful). written-outside _ _ c.args.at c.loop-done.done bytes (omega (arith, c.requires)) (had.written h) in
    search (rules, written, torn)
