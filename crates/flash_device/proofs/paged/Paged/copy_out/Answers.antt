use Rattle.std.proofs.Common.{◌∙◌, IsTrue, arith, rules}
use Rattle.flash_device.proofs.CopyLemmas.{HasRead-piece, Appends-more, AppendsPart-more, Appends-keeps, OnErr-from}
use Rattle.flash_device.proofs.DeviceLemmas.{honest_still}
use Rattle.flash_device.proofs.WindowLemmas.{Covers-part}
use Rattle.flash_device.proofs.paged.Paged.copy_out.Goals as goal

pub copy_piece-requires-clause-piece : goal.copy_piece-requires-clause-piece
copy_piece-requires-clause-piece g c = record { inside = omega arith; short = omega arith }

pub loop-done-preserved : goal.loop-done-preserved
loop-done-preserved g c =
    let had = c.loop-done.invariant in
    let size = c.min-size.ensures in
    let left = c.loop-done-test.true in
    let piece = c.copy_piece.ensures.after in
    let whole = c.in_ok-copy_piece.ensures.after in record {
      within = omega (arith, size, left);
      whole_pieces = λ more. omega (arith, size, had.whole_pieces left, more);
      no_piece = piece.no_piece;
      read = HasRead-piece _ _ _ _ _ _ (omega (arith, size, left)) (had.whole_pieces left) had.read whole.read;
      free = λ covers.
          let same = had.free covers in
          let part = Covers-part c.args.self.now.held c.args.at c.args.n c.loop-done.done c.min-size.result (omega (arith, size, left)) covers in
          whole.free (rw same part) ∙ same;
      faults = omega (arith, had.faults, piece.faults);
      put = λ h. Appends-more _ _ _ _ c.args.at c.loop-done.done c.min-size.result (had.put h) (rw (had.read.device.unchanged h) at (whole.copied (honest_still had.read.device.calls.same_honesty h)));
    }

pub returns-in_err-copy_piece-clause-after : goal.returns-in_err-copy_piece-clause-after
returns-in_err-copy_piece-clause-after g c =
    let had = c.loop-done.invariant in
    let left = c.loop-done-test.true in
    let read = HasRead-piece _ _ _ _ _ _ left (had.whole_pieces left) had.read c.copy_piece.ensures.after.read in
    let part = λ (h : IsTrue c.args.self.now.device.honest).
    let piece = rw (had.read.device.unchanged h) at (c.in_err-copy_piece.ensures.after.part (honest_still had.read.device.calls.same_honesty h)) in
    OnErr-from c.from_residual.result (AppendsPart-more _ _ _ _ c.args.at c.loop-done.done c.min-size.result c.args.n (omega (arith, c.min-size.ensures, left)) c.requires (had.put h) piece) in
    search (rules, read, part)

pub returns-in_err-copy_piece-clause-pieces : goal.returns-in_err-copy_piece-clause-pieces
returns-in_err-copy_piece-clause-pieces g c = λ h device.
    let had = c.loop-done.invariant in
    let left = c.loop-done-test.true in
    (c.loop-done.done, left, had.whole_pieces left, Appends-keeps _ _ _ _ (had.put h) (c.copy_piece.ensures.none (search rules)))
