use Rattle.std.proofs.Common.{◌≡◌, ◌∙◌, ◌+◌, ◌-◌, ◌*◌, ◌/◌, ◌%◌, ◌^◌, ap, arith}
use Rattle.std.specs.Prelude.{slice_range, ◌==◌}
use Rattle.flash_device.proofs.WindowLemmas.{HasRead-then}
use Rattle.board_structures.specs.FirmwareTables.{word_sum}
use Rattle.board_structures.proofs.Parts.{told_after}
use Rattle.board_structures.proofs.Updates.{last_sum, next_page, no_word}
use Rattle.board_structures.proofs.firmware_table.has_sum.Goals as goal

pub loop-i-preserved : goal.loop-i-preserved
loop-i-preserved g c =
    let had = c.loop-i.invariant in
    let piece = rw c.in_ok-piece.was at c.piece.follows.holds-at-none in
    let update = c.args.update in
    let bytes = c.in_ok-piece.field-0.now in
    let at = update.start + 4096 * c.loop-i.i in
    let n = c.min-n.result in
    record {
      read = HasRead-then _ 1 0 _ _ _ had.read piece.read;
      below = c.add_words-sum.type_inv;
      rest = λ h.
          let image = c.args.paged.now.device.content in
          let others = word_sum ((update.size - 4096 * (c.loop-i.i + 1)) / 4) (update.start + 4096 * (c.loop-i.i + 1)) image in
          let shown = told_after had.read (λ image. bytes ≡ slice_range image at (at + n)) (rw c.start.ensures at c.in_ok-piece.ensures.read) h in
          ap (λ t. (t + others) % 2 ^ 32) (c.add_words-sum.ensures ∙ ap (λ m. (c.loop-i.sum + word_sum (m / 4) 0 bytes) % 2 ^ 32) c.in_ok-piece.ensures.size)
          ∙ next_page image bytes update.start update.size c.loop-i.i n c.loop-i.sum c.requires.words (omega (arith, c.loop-i-test.true, c.size-len.ensures)) (rw c.size-len.ensures at c.min-n.ensures) shown
          ∙ had.rest h;
    }

pub returns-clause-sum : goal.returns-clause-sum
returns-clause-sum g c = λ h.
    let image = c.args.paged.now.device.content in
    let update = c.args.update in
    let rest = no_word ((update.size - 4096 * c.loop-i.i) / 4) (update.start + 4096 * c.loop-i.i) image (omega (arith, c.loop-i-test.false, c.size-len.ensures)) in
    ap (λ s. s == 0) (last_sum c.loop-i.sum _ (word_sum (update.size / 4) update.start image) c.loop-i.invariant.below rest (c.loop-i.invariant.rest h))
