use Rattle.std.proofs.Common.{◌≡◌, ◌+◌, ◌*◌, ◌-◌, ◌/◌, ◌%◌, ◌^◌, length}
use Rattle.board_structures.specs.FirmwareTables.{word_sum}
use Rattle.board_structures.proofs.firmware_table.add_words.Given as goal

-- the words that are added, and the others, have the sum of all
abbrev pub invariant-loop-i : goal.invariant-loop-i
invariant-loop-i l = let n = length l.bytes / 4 in (l.total + word_sum (n - l.i) (4 * l.i) l.bytes) % 2 ^ 32 ≡ (l.fn.sum + word_sum n 0 l.bytes) % 2 ^ 32
