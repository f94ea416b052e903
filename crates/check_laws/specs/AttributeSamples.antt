-- Literal attributes of a component, as bytes of the file.
use Rattle.std.specs.Prelude.{ℕ, ◌+◌, List, [], ◌∷◌, ◌++◌, replicate, Option}
use lib.Chars.{codes}
use Rattle.check_findings.specs.Attributes.{fault_after, walked}
use Rattle.check_findings.specs.declared.region.finding.AttributeFault.{AttributeFault}

-- a number below 256, in four bytes
abbrev pub four : ℕ → List ℕ
four n = 0 ∷ 0 ∷ 0 ∷ n ∷ []

-- an attribute with the unused tag 0, without contents
abbrev pub unused : List ℕ
unused = four 0 ++ four 8

-- a digest of `len` bytes with the number of an algorithm
abbrev pub digest : List ℕ → ℕ → List ℕ
digest number len = codes "hsaH" ++ four (12 + len) ++ number ++ replicate len 0x55

-- a compression attribute of `len` bytes after its head
abbrev pub compression : ℕ → List ℕ
compression len = codes "BCZL" ++ four (8 + len) ++ replicate len 0

-- a stage attribute: load address, entry point and size in memory
abbrev pub stage : ℕ → ℕ → List ℕ
stage entry memory = codes "StgH" ++ four 24 ++ replicate 8 0 ++ four entry ++ four memory

-- the first fault of these attributes of a component of this type
abbrev pub fault_in : ℕ → List ℕ → Option AttributeFault
fault_in kind list = fault_after kind [] (walked list)
