use Rattle.std.proofs.Common.{◌≡◌, ◌*◌, drop}
use Rattle.flash_device.specs.Pages.{HasRead, OnHonestIn}
use Rattle.board_structures.specs.Filling.{each_byte_is}
use Rattle.board_structures.proofs.filling.each_byte_is.Given as goal

abbrev pub invariant-loop-i : goal.invariant-loop-i
invariant-loop-i g l =
    record {
      read : HasRead l.i 0 l.fn.paged l.paged;
      rest : OnHonestIn l.fn.paged.device l.fn.area (λ x. each_byte_is l.fn.byte x ≡ each_byte_is l.fn.byte (drop (4096 * l.i) x));
    }
