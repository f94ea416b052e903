-- Parts of a region.
use Rattle.std.proofs.lemmas.Grind.{common_steps}
use Rattle.std.proofs.Common.{◌≡◌, ℕ, ◌+◌, ◌-◌, ◌≤◌, List, length, take, drop, sym, ap, ◌∙◌, arith, length-take, length-drop}
use Rattle.std.specs.Prelude.{slice_range, Result, OnOk, IfOk}
use Rattle.std.proofs.lemmas.List.{take-take, drop-drop, drop-take}
use Rattle.std.proofs.Common.{Bool, Option, ◌<◌, ◌⊎◌, inl, inr, min}
use Rattle.std.specs.List.{list_any}
use Rattle.std.proofs.lemmas.List.{take_all}
use Rattle.std.proofs.lemmas.Slice.{between_is}
use Rattle.std.proofs.lemmas.Bool.{le-ltb, cases_lt}
use Rattle.flash_format.specs.declared.head.Head.{Head}
use Rattle.flash_format.specs.Head.{head_at}
use Rattle.flash_format.specs.Entry.{front, is_nul, is_terminated}
use Rattle.flash_format.proofs.Fronts.{head_at-take}
use Rattle.flash_device.specs.Regions.{Range, bytes_in, LiesIn}

pub range_is : (x : List ℕ) (at n : ℕ) → slice_range x at (at + n) ≡ take n (drop at x)
range_is x at n = ap (λ k. take k (drop at x)) {x = at + n - at} {y = n} (omega arith)

pub length-region : (r : Range) (image : List ℕ) → LiesIn r image → length (bytes_in r image) ≡ r.size
length-region r image inside = grind (arith, length-take, length-drop)

-- a part of a region is a part of the image
pub part-in : (image : List ℕ) (r : Range) (at n : ℕ) → at + n ≤ r.size → slice_range image (r.start + at) (r.start + at + n) ≡ slice_range (bytes_in r image) at (at + n)
part-in image r at n fits =
    let size : r.size ≡ at + (r.size - at) = omega arith in
    range_is image (r.start + at) n
    ∙ ap (take n) (sym (drop-drop at r.start image))
    ∙ sym (take-take n (r.size - at) (drop at (drop r.start image)) (omega arith))
    ∙ ap (take n) (sym (drop-take at (r.size - at) (drop r.start image)))
    ∙ ap (λ k. take n (drop at (take k (drop r.start image)))) (sym size)
    ∙ ap (λ l. take n (drop at l)) (sym (range_is image r.start r.size))
    ∙ sym (range_is (bytes_in r image) at n)

pub range-drop : (x : List ℕ) (at a b : ℕ) → slice_range (drop at x) a b ≡ slice_range x (at + a) (at + b)
range-drop x at a b = grind (arith, common_steps)

pub range-take : (x : List ℕ) (a b n : ℕ) → a + n ≤ b → take n (slice_range x a b) ≡ slice_range x a (a + n)
range-take x a b n le = take-take n (b - a) (drop a x) (omega arith) ∙ sym (range_is x a n)

pub range-after : (x : List ℕ) (a b n : ℕ) → a + n ≤ b → drop n (slice_range x a b) ≡ slice_range x (a + n) b
range-after x a b n le =
    let size : b - a ≡ n + (b - (a + n)) = omega arith in
    ap (λ k. drop n (take k (drop a x))) size ∙ drop-take n (b - (a + n)) (drop a x) ∙ ap (take (b - (a + n))) (drop-drop n a x)

pub length-range : (x : List ℕ) (a b : ℕ) → b ≤ length x → length (slice_range x a b) ≡ b - a
length-range x a b le = grind (arith, length-take, length-drop)

pub read_part : {E : Type 0} (result : Result (Unit {0}) E) (out image : List ℕ) (r : Range) (p at n : ℕ) → OnOk result (out ≡ slice_range image p (p + n)) → p ≡ r.start + at → at + n ≤ r.size
    → IfOk result (λ read. out ≡ slice_range (bytes_in r image) at (at + n))
read_part result out image r p at n read same fits = grind (arith, common_steps, part-in)

pub range-inner : (x : List ℕ) (a b i j : ℕ) → j ≤ b - a → slice_range (slice_range x a b) i j ≡ slice_range x (a + i) (a + j)
range-inner x a b i j le =
    let n : j - i ≡ a + j - (a + i) = omega arith in
    between_is (slice_range x a b) i j
    ∙ ap (drop i) (take-take j (b - a) (drop a x) le)
    ∙ sym (between_is (drop a x) i j)
    ∙ range-drop x a i j

pub front_read : (x : List ℕ) (at : ℕ) (h : Option Head) (bytes : List ℕ) → h ≡ head_at bytes → bytes ≡ slice_range x at (at + 24) → at + 24 ≤ length x → h ≡ front (drop at x)
front_read x at h bytes e read fits = grind (arith, common_steps, head_at-take, le-ltb, length-drop, range_is)

pub name_read : (x : List ℕ) (at end n : ℕ) (b : Bool) → b ≡ list_any is_nul (slice_range x (at + 24) (at + 24 + n)) → 24 ≤ end → n ≡ min (end - 24) 256 → b ≡ is_terminated (slice_range (drop at x) 24 end)
name_read x at end n b e le is = e ∙ ap (list_any is_nul) (sym (go (cases_lt 256 (end - 24))))
  where
    there : slice_range (drop at x) 24 end ≡ slice_range x (at + 24) (at + end)
    there = range-drop x at 24 end

    all : n ≡ end - 24 → at + 24 + n ≡ at + end
    all k = omega arith

    go : (256 < end - 24) ⊎ (end - 24 ≤ 256) → take 256 (slice_range (drop at x) 24 end) ≡ slice_range x (at + 24) (at + 24 + n)
    go (inl more) =
        let k : 256 ≡ n = omega arith in
        ap (take 256) there ∙ range-take x (at + 24) (at + end) 256 (omega arith) ∙ ap (λ j. slice_range x (at + 24) (at + 24 + j)) k
    go (inr less) =
        let k : at + end ≡ at + 24 + n = omega arith in
        ap (take 256) there ∙ take_all 256 _ (omega (arith, length-take (at + end - (at + 24)) (drop (at + 24) x))) ∙ ap (slice_range x (at + 24)) k

pub length-rest : (r : Range) (image : List ℕ) (at : ℕ) → LiesIn r image → length (drop at (bytes_in r image)) ≡ r.size - at
length-rest r image at lies = length-drop at (bytes_in r image) ∙ ap (λ n. n - at) (length-region r image lies)
