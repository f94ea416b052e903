-- The steps of a cut, for any bound of its recursion.
use Rattle.std.proofs.Common.{◌≡◌, ℕ, zero, suc, pred, ◌+◌, ◌%◌, ◌<◌, ◌≤◌, false, List, [], ◌∷◌, length, take, drop, Some, Result, Ok, Err, refl, sym, ap, ◌∙◌, arith}
use Rattle.std.proofs.lemmas.Bool.Decides.{nat_tests}
use Rattle.flash_format.specs.declared.head.Head.{Head}
use Rattle.flash_format.specs.declared.head.Extent.{Extent}
use Rattle.flash_format.specs.declared.head.DamageKind.{DamageKind}
use Rattle.flash_format.specs.Head.{head_of, head_at, is_free, attributes_misplaced, extent_of, round64}
use Rattle.flash_format.specs.Entry.{Entry, cell, entry, present, front}
use Rattle.flash_format.proofs.Fronts.{drop-pred}
use Rattle.flash_format.specs.Cut.{complete, ends, after, by_entry, cut, cut_after}

-- the results of passed checks of a head
pub record IsChecked (h : Head) (left : ℕ) (e : Extent) : Type 0 where
  pub front : 24 ≤ h.offset
  pub placed : is_free h ≡ false → attributes_misplaced h ≡ false
  pub inside : h.offset + h.len ≤ left
  pub content : e.content ≡ h.offset
  pub span : e.span ≡ round64 (h.offset + h.len)

pub checked_ok : (h : Head) (left : ℕ) (e : Extent) → extent_of h left ≡ Ok e → IsChecked h left e
unfolding extent_of
checked_ok h left e ok = grind (arith, nat_tests)

-- the properties of a cell
pub record IsCell (x : List ℕ) (span : ℕ) : Type 0 where
  pub long : 24 ≤ length x
  pub head : head_at x ≡ Some (head_of x)
  pub extent : Extent
  pub checks : extent_of (head_of x) (length x) ≡ Ok extent
  pub spans : extent.span ≡ span

present_cell : (h : Head) (x : List ℕ) (r : Result Extent DamageKind) (span : ℕ) → present h x r ≡ cell span → (e : Extent) × (r ≡ Ok e) × (e.span ≡ span)
present_cell h x (Err k) span p = absurd cc
present_cell h x (Ok e) span p = (e, refl, grind (arith, nat_tests))

pub head_is : (x : List ℕ) (h : Head) → head_at x ≡ Some h → head_of x ≡ h
unfolding head_at
head_is x h e = grind (arith, nat_tests)

pub front_some : (x : List ℕ) (h : Head) → front x ≡ Some h → (24 ≤ length x) × (head_at x ≡ Some h) × (h ≡ head_of x)
front_some x h e = grind (arith, nat_tests, head_is)

pub cell_is : (x : List ℕ) (span : ℕ) → entry x ≡ cell span → IsCell x span
unfolding entry
cell_is x span e = grind (arith, nat_tests, front_some, present_cell)

-- a multiple of 64, inside bytes of such a length
pub record IsSpan (x : List ℕ) (span : ℕ) : Type 0 where
  pub positive : 64 ≤ span
  pub whole : span % 64 ≡ 0
  pub inside : length x % 64 ≡ 0 → span ≤ length x

pub cell_span : (x : List ℕ) (span : ℕ) → entry x ≡ cell span → IsSpan x span
cell_span x span e =
    let c = cell_is x span e in
    let k = checked_ok (head_of x) (length x) c.extent c.checks in
    let s : span ≡ round64 ((head_of x).offset + (head_of x).len) = sym c.spans ∙ k.span in
    record { positive = omega (arith, k.front); whole = omega arith; inside = λ h. omega (arith, k.front, k.inside) }

-- ---- the equations of `cut`

-- the previous cell's bytes don't count
pub cut_after-drop : (k : ℕ) (x : List ℕ) → cut_after k x ≡ cut (drop k x)
unfolding cut_after
cut_after-drop zero x = refl
cut_after-drop (suc k) [] = refl
cut_after-drop (suc k) (b ∷ x) = cut_after-drop k x

-- by the first entry
pub cut_step : (x : List ℕ) (e : Entry) → 0 < length x → entry x ≡ e → cut x ≡ by_entry e x (λ span. cut_after (pred span) (drop 1 x))
unfolding cut_after
cut_step [] e some is = absurd (omega arith)
cut_step (b ∷ x) e some is = ap (λ (v : Entry). by_entry v (b ∷ x) (λ span. cut_after (pred span) x)) is

pub cut_empty : (x : List ℕ) → length x ≡ 0 → cut x ≡ ends complete
unfolding cut_after
cut_empty [] e = refl
cut_empty (b ∷ x) e = absurd (omega arith)

pub cut_cell : (x : List ℕ) (span : ℕ) → 0 < length x → entry x ≡ cell span → cut x ≡ after (take span x ∷ []) (cut (drop span x))
unfolding cut_after
cut_cell [] span some is = absurd (omega arith)
cut_cell (b ∷ x) span some is =
    let s = cell_span (b ∷ x) span is in
    grind (arith, cut_after-drop, drop-pred)
