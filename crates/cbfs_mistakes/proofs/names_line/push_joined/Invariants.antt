use Rattle.std.proofs.Common.{◌≡◌, ◌++◌, ℕ, take}
use Rattle.std.specs.Global.{Vec}
use Rattle.std.specs.List.{flat_map}
use lib.Chars.{codes}
use Rattle.flash_format.specs.Texts.{printed_name}
use Rattle.cbfs_mistakes.proofs.names_line.push_joined.Given as goal

abbrev pub invariant-loop-name : goal.invariant-loop-name
invariant-loop-name l =
    l.out.items ≡ l.initial.out.items
    ++ flat_map (λ (name : Vec ℕ). codes ", " ++ printed_name name.items) (take l.name-index l.others)
