use Rattle.std.proofs.Common.{◌≡◌, ◌+◌, ◌-◌, ◌*◌, ◌/◌, ◌%◌, ◌^◌, ◌<◌}
use Rattle.flash_device.specs.Pages.{HasRead, OnHonest}
use Rattle.board_structures.specs.FirmwareTables.{word_sum}
use Rattle.board_structures.proofs.firmware_table.has_sum.Given as goal

-- the words that are added, and the others, have the sum of all
abbrev pub invariant-loop-i : goal.invariant-loop-i
invariant-loop-i g l =
    record {
      read : HasRead l.i 0 l.fn.paged l.paged;
      below : l.sum < 2 ^ 32;
      rest : OnHonest l.fn.paged.device (λ image. (l.sum + word_sum ((l.fn.update.size - 4096 * l.i) / 4) (l.fn.update.start + 4096 * l.i) image) % 2 ^ 32 ≡ word_sum (l.fn.update.size / 4) l.fn.update.start image % 2 ^ 32);
    }
