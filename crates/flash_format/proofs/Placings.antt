-- A component in place of free cells: one more, and no other change.
use Rattle.std.proofs.lemmas.Bool.Decides.{nat_tests}
use Rattle.std.proofs.Common.{◌≡◌, sym, ℕ, ◌+◌, ◌-◌, ◌%◌, ◌^◌, ◌<◌, ◌≤◌, false, cond, List, [], ◌∷◌, ◌++◌, length, Option, ◌∙◌, ap, subst, arith, All, append_assoc, length-append}
use Rattle.std.specs.List.{concat}
use Rattle.std.proofs.lemmas.List.{append-nil}
use Rattle.std.proofs.lemmas.List.Elements.{All-nil, All-cons, All-append}
use Rattle.flash_format.specs.Head.{head_of, is_free}
use Rattle.flash_format.specs.Made.{empty_entry}
use Rattle.flash_format.specs.Cut.{Cut, cut, IsCell}
use Rattle.flash_format.specs.Components.{Component, component_at, components_from}
use Rattle.flash_format.specs.declared.digest.Digest.{Digest}
use Rattle.flash_format.specs.Splices.{AllFree, CellsBetween, splice}
use Rattle.flash_format.specs.Placings.{HasOneMoreComponent, DecodesAs, IsFreeSpace, space_cells, made_component}
use Rattle.flash_format.proofs.CutLaws.{cut_unique}
use Rattle.flash_format.proofs.CutSteps.{cell_span}
use Rattle.flash_format.proofs.CellLists.{components-append}
use Rattle.flash_format.proofs.EmptyEntryLaws.{length-empty_header}
use Rattle.flash_format.proofs.MadeLaws.{KeepsFour, length-padding}
use Rattle.flash_format.proofs.Splices.{concat-append, space_each, concat-space, components-free, length-concat-cells, cells-before, cells-group, splice-cut, splice-components, group-components}

-- the cut's end is the same
pub one_more-end : (x : List ℕ) (start end : ℕ) (g : CellsBetween x start end) (cells : List (List ℕ)) (component : Component) (y : List ℕ) → HasOneMoreComponent x start end g cells component y → (cut y).end ≡ (cut x).end
one_more-end x start end g cells component y more = ap (λ (c : Cut). c.end) (cut_unique y (g.before ++ cells ++ g.after) g.rest g.ending more.is_cut ∙ sym (ap (λ (c : Cut). record c { cells = g.before ++ cells ++ g.after }) (cut_unique x (g.before ++ g.group ++ g.after) g.rest g.ending g.is)))

-- ---- free space

pub empty_is_space : (size : ℕ) (last : Option (List ℕ)) → 64 ≤ size → KeepsFour last → IsFreeSpace size (empty_entry size last)
empty_is_space size last some four = grind (arith, nat_tests, length-append, length-empty_header, length-padding)

-- ---- the component

component_alone : (at : ℕ) (x : List ℕ) → is_free (head_of x) ≡ false → components_from at (x ∷ []) ≡ component_at at x ∷ []
unfolding components_from
component_alone at x used = ap (λ b. cond b [] (component_at at x ∷ [])) used

-- the only component among free cells
component_among : (start at : ℕ) (a b : List (List ℕ)) (x : List ℕ) → AllFree a → AllFree b → is_free (head_of x) ≡ false → start + length (concat a) ≡ at
    → components_from start (a ++ (x ∷ []) ++ b) ≡ component_at at x ∷ []
component_among start at a b x free_before free_after used place = simp (components-append, components-free, append-nil, component_alone) (grind (arith, nat_tests))

-- ---- the region

concat-three : (before bytes after : List ℕ) → concat (space_cells before ++ (bytes ∷ []) ++ space_cells after) ≡ before ++ (bytes ++ after)
concat-three before bytes after = simp (concat-append, concat-space, append_assoc)

pub placed : (x : List ℕ) (start end : ℕ) (g : CellsBetween x start end) (before used after : List ℕ) → AllFree g.group → IsFreeSpace (length before) before → IsFreeSpace (length after) after → IsCell used → is_free (head_of used) ≡ false → length before % 64 ≡ 0 → start + length (before ++ (used ++ after)) ≡ end → end - start < 2 ^ 32 → HasOneMoreComponent x start end g (space_cells before ++ (used ∷ []) ++ space_cells after) (component_at (start + length before) used) (splice x start end (before ++ (used ++ after)))
placed x start end g before used after free space_before space_after is_cell is_used aligned size small =
    let cells : List (List ℕ) = space_cells before ++ (used ∷ []) ++ space_cells after in
    let at = start + length before in
    let start_whole : start % 64 ≡ 0 = omega (arith, g.start_is, length-concat-cells g.before (cells-before x start end g)) in
    let end_whole : end % 64 ≡ 0 = omega (arith, g.end_is, start_whole, length-concat-cells g.group (cells-group x start end g)) in
    let used_span : length used % 64 ≡ 0 = (cell_span used (length used) is_cell).whole in
    let sum : length (before ++ (used ++ after)) ≡ length before + (length used + length after) = length-append before (used ++ after) ∙ ap (λ n. length before + n) (length-append used after) in
    let first = space_each (length before) before space_before aligned (omega (arith, small, size, sum)) in
    let last = space_each (length after) after space_after (omega (arith, aligned, start_whole, end_whole, used_span, size, sum)) (omega (arith, small, size, sum)) in
    let each : All IsCell cells =
    All-append IsCell (space_cells before ++ (used ∷ [])) (space_cells after)
    (All-append IsCell (space_cells before) (used ∷ []) first.0 (All-cons IsCell used [] is_cell (All-nil IsCell)))
    last.0 in
    let joined : concat cells ≡ before ++ (used ++ after) = concat-three before used after in
    let long : start + length (concat cells) ≡ end = ap (λ (l : List ℕ). start + length l) joined ∙ size in
    let here : components_from start cells ≡ component_at at used ∷ [] =
    component_among start at (space_cells before) (space_cells after) used first.1 last.1 is_used (ap (λ (l : List ℕ). start + length l) (concat-space before)) in
    record {
      is_cut = rw joined at (splice-cut x start end g cells each long);
      old_components = rw (components-free start g.group free, append-nil) at (group-components x start end g);
      new_components = rw (joined, here, append_assoc (components_from 0 g.before)) at (splice-components x start end g cells each long);
    }

-- a cell between start and end, with free space up to both
pub record IsPlacing (start end at : ℕ) (before cell after : List ℕ) : Type 0 where
  pub aligned : at % 64 ≡ 0
  pub from_start : start ≤ at
  pub to_end : at + length cell ≤ end
  pub small : end - start < 2 ^ 32
  pub space_before : IsFreeSpace (at - start) before
  pub space_after : IsFreeSpace (end - (at + length cell)) after

pub components_placed : (x : List ℕ) (start end : ℕ) (g : CellsBetween x start end) (at : ℕ) (before whole after name : List ℕ) (kind : ℕ) (digest : Option Digest) (content : List ℕ)
    → AllFree g.group → IsPlacing start end at before whole after → DecodesAs name kind digest content whole (length whole)
    → HasOneMoreComponent x start end g (space_cells before ++ (whole ∷ []) ++ space_cells after) (made_component at name kind digest content whole) (splice x start end (before ++ (whole ++ after)))
components_placed x start end g at before whole after name kind digest content free place read =
    let start_whole : start % 64 ≡ 0 = omega (arith, g.start_is, length-concat-cells g.before (cells-before x start end g)) in
    let begins : start + length before ≡ at = omega (arith, place.space_before.long, place.from_start) in
    let size : start + length (before ++ (whole ++ after)) ≡ end = omega (arith, length-append before (whole ++ after), length-append whole after, place.space_before.long, place.space_after.long, place.from_start, place.to_end) in
    let more = placed x start end g before whole after free (rw place.space_before.long place.space_before) (rw place.space_after.long place.space_after) read.is_cell read.is_used (omega (arith, begins, place.aligned, start_whole)) size place.small in
    subst (λ (c : Component). HasOneMoreComponent x start end g (space_cells before ++ (whole ∷ []) ++ space_cells after) c (splice x start end (before ++ (whole ++ after)))) (ap (λ n. component_at n whole) begins ∙ read.component at) more
