use Rattle.std.proofs.Common.{◌≡◌, ◌++◌, take}
use Rattle.flash_format.specs.Texts.{printed_name}
use Rattle.cbfs_mistakes.proofs.names_line.push_name.Given as goal

abbrev pub invariant-loop-byte : goal.invariant-loop-byte
invariant-loop-byte l =
    l.out.items ≡ l.initial.out.items ++ printed_name (take l.byte-index l.name)
