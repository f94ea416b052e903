use Rattle.std.proofs.Common.{◌∙◌, ◌+◌, ◌-◌, ◌*◌, ◌/◌, ◌%◌, ◌^◌, length, ap, arith}
use Rattle.board_structures.specs.FirmwareTables.{word_sum}
use Rattle.board_structures.proofs.Updates.{next_word, no_word}
use Rattle.board_structures.proofs.firmware_table.add_words.Goals as goal

pub loop-i-preserved : goal.loop-i-preserved
loop-i-preserved c =
    let n = length c.args.bytes.now / 4 in
    ap (λ w. ((c.loop-i.total + w) % 2 ^ 32 + word_sum (n - (c.loop-i.i + 1)) (4 * (c.loop-i.i + 1)) c.args.bytes.now) % 2 ^ 32) c.read_u32-total.ensures
    ∙ next_word n c.loop-i.i c.loop-i.total c.args.bytes.now (omega (arith, c.loop-i-test.true))
    ∙ c.loop-i.invariant

pub returns : goal.returns
returns c =
    let n = length c.args.bytes.now / 4 in
    let rest = no_word (n - c.loop-i.i) (4 * c.loop-i.i) c.args.bytes.now (omega (arith, c.loop-i-test.false)) in
    omega (arith, c.loop-i.invariant, rest, c.loop-i.auto.total-fits)
