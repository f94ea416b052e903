-- Prefixes of bytes that are appended in parts.
use Rattle.std.proofs.Common.{ℕ, ◌+◌, ◌<◌, length, List, ◌++◌, arith, length-append}
use Rattle.std.specs.Prelude.{Option, min}
use Rattle.std.specs.Io.KnownBytes.{Appends}
use Rattle.std.proofs.KnownBytes.{Appends-nil, Appends-trans}
use Rattle.std.proofs.lemmas.List.{take-append-le, take_min}
use lib.Seq.{take-append-add, take-length}
use Rattle.flash_device.specs.Device.{AppendsPart}
use Rattle.check_report.specs.Effects.{AppendsPrefix}

-- no byte
pub prefix_none : (a : Option (List ℕ)) (xs : List ℕ) → AppendsPrefix a a xs
prefix_none a xs = (0, Appends-nil a)

-- all bytes
pub prefix_all : (a b : Option (List ℕ)) (xs : List ℕ) → Appends a b xs → AppendsPrefix a b xs
prefix_all a b xs all = (length xs, rw (take-length xs) all)

pub prefix_of_part : (a b : Option (List ℕ)) (xs : List ℕ) → AppendsPart a b xs → AppendsPrefix a b xs
prefix_of_part a b xs p = (p.0, p.2)

-- a prefix of the first bytes
pub prefix_of_more : (a b : Option (List ℕ)) (xs ys : List ℕ) → AppendsPrefix a b xs → AppendsPrefix a b (xs ++ ys)
prefix_of_more a b xs ys p =
    let n : ℕ = min p.0 (length xs) in
    (n, rw (take-append-le n xs ys (omega arith), take_min p.0 xs) p.1)

pub part_of_more : (a b : Option (List ℕ)) (xs ys : List ℕ) → 0 < length ys → AppendsPrefix a b xs → AppendsPart a b (xs ++ ys)
part_of_more a b xs ys some p =
    let n : ℕ = min p.0 (length xs) in
    (n, omega (arith, length-append xs ys, some), rw (take-append-le n xs ys (omega arith), take_min p.0 xs) p.1)

-- the first bytes, and a prefix of the next ones
pub prefix_after : (a b c : Option (List ℕ)) (xs ys : List ℕ) → Appends a b xs → AppendsPrefix b c ys → AppendsPrefix a c (xs ++ ys)
prefix_after a b c xs ys first p = (length xs + p.0, rw (take-append-add xs ys p.0) (Appends-trans a b c xs _ first p.1))

pub part_after : (a b c : Option (List ℕ)) (xs ys : List ℕ) → Appends a b xs → AppendsPart b c ys → AppendsPart a c (xs ++ ys)
part_after a b c xs ys first p =
    (length xs + p.0, omega (arith, length-append xs ys, p.1), rw (take-append-add xs ys p.0) (Appends-trans a b c xs _ first p.2))
