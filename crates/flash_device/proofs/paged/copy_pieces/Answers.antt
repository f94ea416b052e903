use Rattle.std.proofs.Common.{◌∙◌, ◌≤◌, ◌+◌, ◌++◌, ℕ, IsTrue, length, take, arith, rules}
use Rattle.std.proofs.lemmas.List.{length-take, length-take-le}
use Rattle.flash_device.proofs.BytesLemmas.{slice_range_is, SameOutside-trans, written-more, written-part}
use Rattle.flash_device.proofs.CopyLemmas.{Calls-piece, Copied-front, Copied-stopped, shown-more}
use Rattle.flash_device.proofs.DeviceLemmas.{honest_still}
use Rattle.flash_device.proofs.paged.copy_pieces.Goals as goal

pub loop-done-preserved : goal.loop-done-preserved
loop-done-preserved g c =
    let had = c.loop-done.invariant in
    let done = c.loop-done.done in
    let size = c.min-size.ensures in
    let left = c.loop-done-test.true in
    let content = (g.S.Source.facts c.args.source.now).content in
    let read = c.in_ok-load_from.ensures in
    let piece = λ (s : IsTrue (g.S.Source.facts c.args.source.now).honest).
    rw (had.source.unchanged s) at (read.read (honest_still had.source.calls.same_honesty s)) ∙ slice_range_is content done c.min-size.result in
    let written = c.in_ok-write_at.ensures.after in record {
      within = omega (arith, size, left);
      whole = λ more. omega (arith, size, had.whole left, more);
      calls = Calls-piece _ _ _ _ _ _ (omega (arith, size, left)) (had.whole left) had.calls written.call.within;
      source = record {
        calls = Calls-piece _ _ _ _ _ _ (omega (arith, size, left)) (had.whole left) had.source.calls read.call.within;
        unchanged = λ s. read.unchanged (honest_still had.source.calls.same_honesty s) ∙ had.source.unchanged s;
      };
      copied = λ h s.
          let now = written.written (honest_still had.calls.same_honesty h) in
          written-more _ _ _ c.args.at done c.min-size.result content (omega (arith, left, c.requires.in_source)) (omega (arith, left, c.requires.inside)) (had.copied h s) (rw (piece s) at now);
      outside = λ h. SameOutside-trans _ _ _ c.args.at c.args.n done _ (omega (arith, size, left, length-take {A = ℕ})) (had.outside h) (written.torn (honest_still had.calls.same_honesty h));
      shown = λ s seen saw. shown-more (g.W.Watch.saw c.see.new.self) seen content _ done c.min-size.result (piece s) (c.see.ensures (seen ++ take done content) (had.shown s seen saw));
    }

pub returns-in_err-load_from-clause-after : goal.returns-in_err-load_from-clause-after
returns-in_err-load_from-clause-after g c =
    let had = c.loop-done.invariant in
    let stopped = Copied-stopped _ _ _ c.args.at c.loop-done.done c.args.n c.loop-done-test.true c.requires.in_source had.copied in
    search (rules, stopped, had.outside)

pub returns-in_err-write_at-clause-after : goal.returns-in_err-write_at-clause-after
returns-in_err-write_at-clause-after g c =
    let had = c.loop-done.invariant in
    let content = (g.S.Source.facts c.args.source.now).content in
    let done = c.loop-done.done in
    let left = c.loop-done-test.true in
    let k = length (take c.min-size.result c.load_from.new.buffer) in
    let short : k ≤ c.min-size.result = omega (arith, length-take {A = ℕ}) in
    let within : done + k ≤ c.args.n = omega (arith, short, c.min-size.ensures, left) in
    let inside : done + k ≤ length (take c.args.n content) = rw (length-take-le c.args.n content c.requires.in_source) within in
    let torn = λ (h : IsTrue (g.F.Flash.facts c.args.device.now).honest). c.write_at.ensures.after.torn (honest_still had.calls.same_honesty h) in
    let part = λ (h : IsTrue (g.F.Flash.facts c.args.device.now).honest) (s : IsTrue (g.S.Source.facts c.args.source.now).honest).
    written-part _ _ _ c.args.at done k (take c.args.n content) (omega (arith, short, c.min-size.ensures)) inside (Copied-front _ _ _ c.args.at done c.args.n (omega (arith, left)) (had.copied h s)) (torn h) in
    let outside = λ (h : IsTrue (g.F.Flash.facts c.args.device.now).honest). SameOutside-trans _ _ _ c.args.at c.args.n done k within (had.outside h) (torn h) in
    search (rules, part, outside)
