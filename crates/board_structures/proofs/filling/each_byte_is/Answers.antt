use Rattle.std.proofs.Common.{◌+◌, ◌*◌, ◌∙◌, ap, drop, sym, arith}
use Rattle.flash_device.specs.Regions.{bytes_in}
use Rattle.flash_device.proofs.DeviceLemmas.{length-bytes_in}
use Rattle.flash_device.proofs.WindowLemmas.{HasRead-then}
use Rattle.board_structures.specs.Filling.{each_byte_is}
use Rattle.board_structures.proofs.Fillings.{filled_page, all_left}
use Rattle.board_structures.proofs.filling.each_byte_is.Goals as goal

pub loop-i-preserved : goal.loop-i-preserved
loop-i-preserved g c =
    let had = c.loop-i.invariant in
    let piece = rw c.in_ok-bytes.was at c.piece.follows.holds-at-none in
    let k = 4096 * c.loop-i.i in
    let x = bytes_in c.args.area c.args.paged.now.device.content in
    record {
      read = HasRead-then _ 1 0 _ _ _ had.read piece.read;
      rest = λ h.
          had.rest h ∙ rw (sym c.are_all.ensures ∙ c.if-not-are_all.false) at (filled_page c.args.area c.args.byte k c.min-n.result _ _ _ c.in_ok-bytes.bytes.now c.requires had.read (omega (arith, c.loop-i-test.true, c.size-len.ensures)) (rw c.size-len.ensures at c.min-n.ensures) (rw c.start.ensures at c.in_ok-bytes.ensures.read) h)
          ∙ ap (λ m. each_byte_is c.args.byte (drop m x)) {x = k + 4096} {y = 4096 * (c.loop-i.i + 1)} (omega arith);
    }

pub returns-then-not-are_all-clause-value : goal.returns-then-not-are_all-clause-value
returns-then-not-are_all-clause-value g c = λ h.
    let had = c.loop-i.invariant in
    let k = 4096 * c.loop-i.i in
    sym (had.rest h ∙ rw (sym c.are_all.ensures ∙ c.if-not-are_all.true) at (filled_page c.args.area c.args.byte k c.min-n.result _ _ _ c.in_ok-bytes.bytes.now c.requires had.read (omega (arith, c.loop-i-test.true, c.size-len.ensures)) (rw c.size-len.ensures at c.min-n.ensures) (rw c.start.ensures at c.in_ok-bytes.ensures.read) h))

pub returns-clause-value : goal.returns-clause-value
returns-clause-value g c = λ h.
    let x = bytes_in c.args.area c.args.paged.now.device.content in
    let len = length-bytes_in c.args.area c.args.paged.now.device.content c.requires.inside in
    sym (c.loop-i.invariant.rest h ∙ all_left c.args.byte (4096 * c.loop-i.i) x (omega (arith, len, c.loop-i-test.false, c.size-len.ensures)))
