use Rattle.std.proofs.Common.{◌≡◌, ◌++◌, take}
use Rattle.flash_format.specs.Texts.{printed_name}
use Rattle.check_report.proofs.rows.text.push_name.Given as goal

abbrev pub invariant-loop-byte : goal.invariant-loop-byte
invariant-loop-byte l = l.text.items ≡ l.initial.text.items ++ printed_name (take l.byte-index l.name)
