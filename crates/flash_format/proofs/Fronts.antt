-- A head decodes alike from its own bytes and from a longer list.
use Rattle.std.proofs.Common.{◌≡◌, ℕ, zero, suc, pred, ◌+◌, ◌<◌, ◌≤◌, List, ◌∷◌, take, drop, refl, sym, ap, ◌∙◌, arith}
use Rattle.std.specs.Prelude.{slice_range}
use Rattle.std.proofs.lemmas.List.{take-take}
use Rattle.std.proofs.lemmas.Slice.{between_is}
use Rattle.byteorder.specs.Endian.{big_number, little_number}
use Rattle.std.proofs.lemmas.List.{get_or-take}
use Rattle.flash_format.specs.Flashmap.{le, fmap_head_of, has_signature, area_of}
use Rattle.flash_format.specs.Head.{be32, head_of, head_at}
use Rattle.flash_format.specs.Entry.{attr_head_of}

pub range-take : (x : List ℕ) (n a b : ℕ) → b ≤ n → slice_range (take n x) a b ≡ slice_range x a b
range-take x n a b le = between_is (take n x) a b ∙ ap (drop a) (take-take b n x le) ∙ sym (between_is x a b)

pub drop-pred : (b : ℕ) (x : List ℕ) (n : ℕ) → 0 < n → drop (pred n) x ≡ drop n (b ∷ x)
drop-pred b x zero some = absurd (omega arith)
drop-pred b x (suc n) some = refl

be32-take : (x : List ℕ) (n at : ℕ) → at + 4 ≤ n → be32 at (take n x) ≡ be32 at x
be32-take x n at le = ap (big_number 4) (range-take x n at (at + 4) le)

pub head_of-take : (x : List ℕ) (n : ℕ) → 24 ≤ n → head_of (take n x) ≡ head_of x
unfolding head_of
head_of-take x n le = rw (be32-take x n 8 (omega arith), be32-take x n 12 (omega arith), be32-take x n 16 (omega arith), be32-take x n 20 (omega arith)) refl

pub head_at-take : (x : List ℕ) (n : ℕ) → 24 ≤ n → head_at (take n x) ≡ head_at x
unfolding head_at
head_at-take x n le = rw (take-take 8 n x (omega arith), head_of-take x n le) refl

pub attr_head_of-take : (x : List ℕ) (n : ℕ) → 8 ≤ n → attr_head_of (take n x) ≡ attr_head_of x
unfolding attr_head_of
attr_head_of-take x n le = rw (be32-take x n 0 (omega arith), be32-take x n 4 (omega arith)) refl

le-take : (x : List ℕ) (n k at : ℕ) → at + k ≤ n → le k at (take n x) ≡ le k at x
le-take x n k at fits = ap (little_number k) (range-take x n at (at + k) fits)

pub has_signature-take : (x : List ℕ) (n : ℕ) → 56 ≤ n → has_signature (take n x) ≡ has_signature x
unfolding has_signature
has_signature-take x n le = rw (take-take 8 n x (omega arith)) refl

pub fmap_head_of-take : (x : List ℕ) (n : ℕ) → 56 ≤ n → fmap_head_of (take n x) ≡ fmap_head_of x
unfolding fmap_head_of
fmap_head_of-take x n fits =
    let major = get_or-take n x 8 0 (omega arith) in
    let minor = get_or-take n x 9 0 (omega arith) in
    let base = le-take x n 8 10 (omega arith) in
    let size = le-take x n 4 18 (omega arith) in
    let name = range-take x n 22 54 (omega arith) in
    let nareas = le-take x n 2 54 (omega arith) in
    cc

pub area_of-take : (x : List ℕ) (n : ℕ) → 42 ≤ n → area_of (take n x) ≡ area_of x
unfolding area_of
area_of-take x n fits =
    let offset = le-take x n 4 0 (omega arith) in
    let size = le-take x n 4 4 (omega arith) in
    let name = range-take x n 8 40 (omega arith) in
    let flags = le-take x n 2 40 (omega arith) in
    cc
