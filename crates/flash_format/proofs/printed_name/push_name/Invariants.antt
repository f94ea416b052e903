use Rattle.std.proofs.Common.{◌≡◌, ◌+◌, ◌*◌, ◌≤◌, ◌++◌, take}
use Rattle.arrayvec.specs.ArrayVec.{array_vec_len}
use Rattle.flash_format.specs.Texts.{printed_name}
use Rattle.flash_format.proofs.printed_name.push_name.Given as goal

abbrev pub invariant-loop-byte : goal.invariant-loop-byte
invariant-loop-byte g l = record {
  items : l.buffer.items ≡ l.initial.buffer.items ++ printed_name (take l.byte-index l.name);
  len : array_vec_len l.buffer ≤ array_vec_len l.initial.buffer + 4 * l.byte-index;
}
