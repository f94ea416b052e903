-- The laws of `entry`: the bytes which affect an entry.
use Rattle.std.proofs.Common.{◌≡◌, ℕ, ◌+◌, ◌≤◌, Bool, true, false, cond, List, length, take, Some, Result, Ok, refl, sym, ap, ◌∙◌, arith, inl, inr}
use Rattle.std.specs.Prelude.{slice_range}
use Rattle.std.proofs.lemmas.Bool.{le-ltb, cases_Bool}
use Rattle.std.proofs.lemmas.Bool.Decides.{nat_tests}
use Rattle.flash_format.specs.declared.head.Head.{Head}
use Rattle.flash_format.specs.declared.head.Extent.{Extent}
use Rattle.flash_format.specs.declared.head.DamageKind.{DamageKind}
use Rattle.flash_format.specs.Head.{head_of, head_at, is_free, attributes_misplaced, extent_of, round64}
use Rattle.flash_format.specs.Entry.{Entry, cell, entry, present, component, name_end, name_field}
use Rattle.flash_format.proofs.Fronts.{range-take, head_at-take}
use Rattle.flash_format.proofs.CutSteps.{IsCell, cell_is, checked_ok, cell_span}

-- ---- the head

same_head_at : (x y : List ℕ) (n : ℕ) → 24 ≤ n → take n x ≡ take n y → head_at x ≡ head_at y
same_head_at x y n long same = sym (head_at-take x n long) ∙ ap (λ (l : List ℕ). head_at l) same ∙ head_at-take y n long

-- the rest matters only if the content doesn't fit
checked_alike : (h : Head) (left other : ℕ) → h.offset + h.len ≤ left → h.offset + h.len ≤ other → extent_of h other ≡ extent_of h left
unfolding extent_of
checked_alike h left other fits here = rw (le-ltb left (h.offset + h.len) fits, le-ltb other (h.offset + h.len) here) refl

-- ---- the fields after the head

range_alike : (x y : List ℕ) (n a b : ℕ) → b ≤ n → take n x ≡ take n y → slice_range x a b ≡ slice_range y a b
range_alike x y n a b le same = sym (range-take x n a b le) ∙ ap (λ (l : List ℕ). slice_range l a b) same ∙ range-take y n a b le

-- after the checks of the head, the name field begins after the head, and ends before the content
pub name_between : (h : Head) → attributes_misplaced h ≡ false → 24 ≤ h.offset → (24 ≤ name_end h) × (name_end h ≤ h.offset)
name_between h placed room = (grind (arith, nat_tests), grind (arith, nat_tests))

component_alike : (h : Head) (x y : List ℕ) (n span : ℕ) → name_end h ≤ n → h.offset ≤ n → take n x ≡ take n y → component h x span ≡ component h y span
component_alike h x y n span named placed same =
    let name : name_field h x ≡ name_field h y = range_alike x y n 24 (name_end h) named same in
    grind (arith, nat_tests, range_alike)

-- ---- the entry of a head
pub from_head : (x : List ℕ) (h : Head) → 24 ≤ length x → head_at x ≡ Some h → entry x ≡ present h x (extent_of h (length x))
unfolding entry
from_head x h long e = rw (le-ltb (length x) 24 long, e) refl

-- the head of a cell of other bytes, if the content fits
as_under : (x y : List ℕ) (span : ℕ) → (c : IsCell x span) → 24 ≤ length y → head_at y ≡ head_at x → (head_of x).offset + (head_of x).len ≤ length y
    → entry y ≡ present (head_of x) y (Ok c.extent)
as_under x y span c long head fits =
    let h = head_of x in
    let inside : h.offset + h.len ≤ length x = (checked_ok h (length x) c.extent c.checks).inside in
    from_head y h long (head ∙ c.head)
    ∙ ap (λ (r : Result Extent DamageKind). present h y r) (checked_alike h (length x) (length y) inside fits ∙ c.checks)

pub up : (n : ℕ) → n ≤ round64 n
up n = omega arith

content_within : (x : List ℕ) (span : ℕ) → IsCell x span → (head_of x).offset + (head_of x).len ≤ span
content_within x span c = grind (arith, nat_tests, checked_ok, up)

-- a cell with a checked head, free or not
pub present_by : (free : Bool) (h : Head) (x : List ℕ) (e : Extent) → is_free h ≡ free → present h x (Ok e) ≡ cond free (cell e.span) (component h x e.span)
present_by free h x e is = ap (λ (b : Bool). cond b (cell e.span) (component h x e.span)) is

present_alike : (h : Head) (x y : List ℕ) (n : ℕ) (e : Extent) → 24 ≤ h.offset → h.offset ≤ n → (is_free h ≡ false → attributes_misplaced h ≡ false) → take n x ≡ take n y → present h y (Ok e) ≡ present h x (Ok e)
present_alike h x y n e room fits placed same = elim (cases_Bool (is_free h)) [
  | inl free ↦ present_by true h y e free ∙ sym (present_by true h x e free)
  | inr other ↦
      let named : name_end h ≤ n = omega (arith, (name_between h (placed other) room).1, fits) in
      ap (λ (v : Entry). cond (is_free h) (cell e.span) v) (sym (component_alike h x y n e.span named fits same))
]

pub entry_alike : (x y : List ℕ) (span : ℕ) → entry x ≡ cell span → span ≤ length x → span ≤ length y → take span x ≡ take span y → entry y ≡ cell span
entry_alike x y span e in_x in_y same =
    let c = cell_is x span e in
    let k = checked_ok (head_of x) (length x) c.extent c.checks in
    let long : 24 ≤ span = omega (arith, (cell_span x span e).positive) in
    let ends = content_within x span c in
    let fits : (head_of x).offset ≤ span = omega (arith, ends) in
    as_under x y span c (omega arith) (sym (same_head_at x y span long same)) (omega (arith, ends))
    ∙ present_alike (head_of x) x y span c.extent k.front fits k.placed same
    ∙ sym (as_under x x span c c.long refl k.inside)
    ∙ e

pub entry_free : (x y : List ℕ) (span : ℕ) → entry x ≡ cell span → is_free (head_of x) ≡ true → take 24 x ≡ take 24 y → span ≤ length y → entry y ≡ cell span
entry_free x y span e free same in_y =
    let c = cell_is x span e in
    let large = (cell_span x span e).positive in
    let ends = content_within x span c in
    let there = as_under x y span c (omega arith) (sym (same_head_at x y 24 (omega arith) same)) (omega (arith, ends)) in
    grind (arith, present_by)
