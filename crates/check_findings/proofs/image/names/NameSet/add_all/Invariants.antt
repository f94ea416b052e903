use Rattle.std.proofs.Common.{◌≡◌, ℕ, List, ◌++◌, take}
use Rattle.check_findings.specs.ImageFindings.{has_one_of, is_named_in}
use Rattle.check_findings.specs.ImageFindings.{names_in}
use Rattle.check_findings.proofs.image.names.NameSet.add_all.Given as goal

abbrev pub invariant-loop-name : goal.invariant-loop-name
invariant-loop-name l = (before : List (List ℕ)) → is_named_in l.initial.self ≡ has_one_of before → is_named_in l.self ≡ has_one_of (before ++ names_in (take l.name-index l.names))
