-- The cells and components of a region after the replacement of a group of cells.
use Rattle.std.proofs.lemmas.Bool.Decides.{nat_tests}
use Rattle.std.proofs.Common.{◌≡◌, ℕ, ◌+◌, ◌-◌, ◌%◌, ◌^◌, ◌<◌, Bool, true, cond, List, [], ◌∷◌, ◌++◌, length, take, drop, sym, ◌∙◌, ap, refl, arith, All, append_assoc, length-append}
use Rattle.std.specs.List.{concat}
use Rattle.std.proofs.lemmas.List.{take_at, drop_at, append-nil}
use Rattle.std.proofs.lemmas.List.Elements.{All-nil, All-cons, All-head, All-tail, All-append}
use Rattle.flash_format.specs.Head.{head_of, is_free}
use Rattle.flash_format.specs.Made.{header_length, empty_header}
use Rattle.flash_format.specs.Placings.{IsFreeSpace, space_cells}
use Rattle.flash_format.proofs.EmptyEntryLaws.{empty_header-cell, length-empty_header}
use Rattle.flash_format.specs.Cut.{cut, IsCell, IsCut}
use Rattle.flash_format.specs.Components.{component_at, components_from, components}
use Rattle.flash_format.specs.Splices.{CellsBetween, splice}
pub use Rattle.std.proofs.lemmas.List.Folds.{concat-append}
pub use Rattle.flash_format.specs.Splices.{AllFree}
use Rattle.flash_format.proofs.CutSteps.{cell_span}
use Rattle.flash_format.proofs.CutLaws.{cut_unique}
use Rattle.flash_format.proofs.CellLists.{components-append}

pub All-left : (P : List ℕ → Type 0) (a b : List (List ℕ)) → All P (a ++ b) → All P a
All-left P [] b each = All-nil P
All-left P (c ∷ a) b each = All-cons P c a (All-head P c (a ++ b) each) (All-left P a b (All-tail P c (a ++ b) each))

pub All-right : (P : List ℕ → Type 0) (a b : List (List ℕ)) → All P (a ++ b) → All P b
All-right P [] b each = each
All-right P (c ∷ a) b each = All-right P a b (All-tail P c (a ++ b) each)

-- lengths are multiples of 64
pub length-concat-cells : (cs : List (List ℕ)) → All IsCell cs → length (concat cs) % 64 ≡ 0
length-concat-cells [] each = refl
length-concat-cells (c ∷ cs) each =
    let s = cell_span c (length c) (All-head IsCell c cs each) in
    omega (arith, s.whole, length-append c (concat cs), length-concat-cells cs (All-tail IsCell c cs each))

concat-three : (a b c : List (List ℕ)) (rest : List ℕ) → concat (a ++ b ++ c) ++ rest ≡ concat a ++ (concat b ++ (concat c ++ rest))
concat-three a b c rest = simp (concat-append, append_assoc)

pub components-free : (at : ℕ) (cs : List (List ℕ)) → AllFree cs → components_from at cs ≡ []
unfolding components_from
components-free at [] free = refl
components-free at (c ∷ cs) free =
    ap (λ b. cond b (components_from (at + length c) cs) (component_at at c ∷ components_from (at + length c) cs)) (All-head (λ x. is_free (head_of x) ≡ true) c cs free)
    ∙ components-free (at + length c) cs (All-tail (λ x. is_free (head_of x) ≡ true) c cs free)

-- the components around and in a group
components-three : (a b c : List (List ℕ)) → components_from 0 (a ++ b ++ c) ≡ components_from 0 a ++ components_from (length (concat a)) b ++ components_from (length (concat a) + length (concat b)) c
components-three a b c = simp (concat-append, length-append, components-append) (grind (arith, nat_tests))

-- ---- free space

pub space_cell : (size : ℕ) (bytes : List ℕ) → IsFreeSpace size bytes → 0 < size → size % 64 ≡ 0 → size < 2 ^ 32 → IsCell bytes × (is_free (head_of bytes) ≡ true)
space_cell size bytes is some whole small =
    let (kept, more, shape) = is.header some in
    let room : header_length + length more ≡ size = omega (arith, is.long, ap length shape, length-append (empty_header size kept) more, length-empty_header size kept) in
    let read = empty_header-cell size kept more (omega arith) whole small room in
    grind arith

pub space_each : (size : ℕ) (bytes : List ℕ) → IsFreeSpace size bytes → size % 64 ≡ 0 → size < 2 ^ 32 → All IsCell (space_cells bytes) × AllFree (space_cells bytes)
space_each size [] is whole small = (All-nil IsCell, All-nil (λ c. is_free (head_of c) ≡ true))
space_each size (b ∷ bytes) is whole small =
    let read = space_cell size (b ∷ bytes) is (omega (arith, is.long)) whole small in
    (All-cons IsCell (b ∷ bytes) [] read.0 (All-nil IsCell), All-cons (λ c. is_free (head_of c) ≡ true) (b ∷ bytes) [] read.1 (All-nil (λ c. is_free (head_of c) ≡ true)))

pub concat-space : (bytes : List ℕ) → concat (space_cells bytes) ≡ bytes
concat-space [] = refl
concat-space (b ∷ bytes) = append-nil (b ∷ bytes)

-- ---- a group of cells

module _ (x : List ℕ) (start end : ℕ) (g : CellsBetween x start end) where
  pub group-whole : x ≡ concat g.before ++ (concat g.group ++ (concat g.after ++ g.rest))
  group-whole = g.is.whole ∙ concat-three g.before g.group g.after g.rest

  group-prefix : take start x ≡ concat g.before
  group-prefix = ap (λ (l : List ℕ). take start l) group-whole ∙ take_at (concat g.before) _ start g.start_is

  group-later : drop end x ≡ concat g.after ++ g.rest
  group-later =
      ap (λ (l : List ℕ). drop end l) (group-whole ∙ sym (append_assoc (concat g.before) (concat g.group) (concat g.after ++ g.rest)))
      ∙ drop_at (concat g.before ++ concat g.group) (concat g.after ++ g.rest) end (omega (arith, length-append (concat g.before) (concat g.group), g.start_is, g.end_is))

  pub cells-before : All IsCell g.before
  cells-before = All-left IsCell g.before g.group (All-left IsCell (g.before ++ g.group) g.after g.is.each)

  pub cells-group : All IsCell g.group
  cells-group = All-right IsCell g.before g.group (All-left IsCell (g.before ++ g.group) g.after g.is.each)

  -- the cut with other cells in the group's place
  pub splice-cut : (new : List (List ℕ)) → All IsCell new → start + length (concat new) ≡ end → IsCut (splice x start end (concat new)) (g.before ++ new ++ g.after) g.rest g.ending
  splice-cut new each size = record {
    whole = rw (group-prefix, group-later) (sym (concat-three g.before new g.after g.rest));
    each =
        All-append IsCell (g.before ++ new) g.after
        (All-append IsCell g.before new cells-before each)
        (All-right IsCell (g.before ++ g.group) g.after g.is.each);
    last = g.is.last;
  }

  splice-is : (new : List (List ℕ)) → All IsCell new → start + length (concat new) ≡ end → cut (splice x start end (concat new)) ≡ record { cells = g.before ++ new ++ g.after; end = g.ending }
  splice-is new each size = cut_unique _ (g.before ++ new ++ g.after) g.rest g.ending (splice-cut new each size)

  -- the components with other cells in the group's place
  pub splice-components : (new : List (List ℕ)) → All IsCell new → start + length (concat new) ≡ end
      → components (splice x start end (concat new)) ≡ components_from 0 g.before ++ components_from start new ++ components_from end g.after
  splice-components new each size = grind (arith, splice-is, components-three)

  pub group-components : components x ≡ components_from 0 g.before ++ components_from start g.group ++ components_from end g.after
  group-components = grind (arith, nat_tests, cut_unique, components-three)

  pub splice-end : (new : List (List ℕ)) → All IsCell new → start + length (concat new) ≡ end → (cut (splice x start end (concat new))).end ≡ (cut x).end
  splice-end new each size = grind (arith, nat_tests, splice-is, cut_unique)

  -- ---- an empty entry's header in the group's place, with anything after it

  module _ (kept : Bool) (more : List ℕ) (some : start < end) (small : end - start < 2 ^ 32) (room : start + header_length + length more ≡ end) where
    abbrev empty_bytes : List ℕ
    empty_bytes = empty_header (end - start) kept ++ more

    empty_entry-length : length empty_bytes ≡ end - start
    empty_entry-length = omega (arith, length-append (empty_header (end - start) kept) more, length-empty_header (end - start) kept, room)

    empty_entry-space : All IsCell (space_cells empty_bytes) × AllFree (space_cells empty_bytes)
    empty_entry-space = space_each (end - start) empty_bytes (record { long = empty_entry-length; header = λ _. (kept, more, refl) }) (omega (arith, length-concat-cells g.group cells-group, g.end_is)) small

    empty_entry-size : start + length (concat (space_cells empty_bytes)) ≡ end
    empty_entry-size = omega (arith, ap length (concat-space empty_bytes), empty_entry-length, some)

    pub emptied-components : components (splice x start end empty_bytes) ≡ components_from 0 g.before ++ components_from end g.after
    emptied-components = grind (arith, nat_tests, concat-space, splice-components, empty_entry-space, empty_entry-size, components-free, append-nil)

    pub emptied-end : (cut (splice x start end empty_bytes)).end ≡ (cut x).end
    emptied-end = ap (λ (l : List ℕ). (cut (splice x start end l)).end) (sym (concat-space empty_bytes)) ∙ splice-end (space_cells empty_bytes) empty_entry-space.0 empty_entry-size
