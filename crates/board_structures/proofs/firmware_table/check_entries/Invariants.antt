use Rattle.std.proofs.Common.{◌≡◌, ◌+◌, ◌-◌, ◌*◌, ◌/◌, ◌≤◌, length}
use Rattle.flash_device.specs.Pages.{HasRead, OnHonest}
use Rattle.board_structures.specs.FirmwareTables.{entries_fault}
use Rattle.board_structures.proofs.firmware_table.check_entries.Given as goal

-- the entries that were checked have no fault, and their updates pay for their reads
abbrev pub invariant-loop-number : goal.invariant-loop-number
invariant-loop-number g l =
    let all = length l.fn.paged.device.content in
    record {
      some : 1 ≤ l.number;
      left : l.left ≤ all;
      read : HasRead (3 * (l.number - 1) + (all - l.left) / 4096) 0 l.fn.paged l.paged;
      rest : OnHonest l.fn.paged.device (λ image. entries_fault (l.fn.count - l.number) l.number l.left l.fn.place image ≡ entries_fault (l.fn.count - 1) 1 (length image) l.fn.place image);
    }
