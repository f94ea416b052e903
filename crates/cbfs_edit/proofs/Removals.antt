-- An accepted removal: its group, its effect, and the component.
use Rattle.std.proofs.Common.{◌≡◌, ◌⊎◌, inl, inr, ℕ, ◌-◌, ◌%◌, ◌^◌, ◌<◌, List, length, Result, Ok, Err, sym, ◌∙◌, ap, subst, arith, ◌+◌, false, [], ◌∷◌, ◌++◌, refl, All}
use Rattle.std.specs.Prelude.{IsErrOf, ok_or}
use Rattle.flash_device.specs.Regions.{Range, LiesIn, bytes_in}
use Rattle.flash_device.proofs.DeviceLemmas.{length-bytes_in}
use Rattle.flash_format.specs.Cut.{cut}
use Rattle.cbfs_edit.specs.Removals.{IsCellRange, IsGroupOf, group_from, IsComponent, IsNot, removal_in, removed, space_end}
use Rattle.flash_device.specs.Device.{overwritten, SameOutside}
use Rattle.flash_device.proofs.RegionLemmas.{image_is}
use Rattle.cbfs_edit.specs.Changes.{LeavesWhole, IsRemoval}
use Rattle.cbfs_edit.specs.Laws.{LosesOne}
use Rattle.cbfs_edit.specs.declared.fault.EditFault.{EditFault}
use Rattle.cbfs_edit.specs.declared.group.CellRange.{CellRange}
use Rattle.cbfs_edit.proofs.Groups.{between, end_of, free_parts, group_exact, group_some, whole_of}
use Rattle.cbfs_edit.proofs.Sound.{accepted_by, found-some}
use Rattle.cbfs_edit.proofs.EmptyEntries.{IsOldOrEmptied, group_range, emptied-end, emptied-same, emptied-stopped, emptied-wider, space_end-below, space_end-near, emptied-components, removed-whole}
use Rattle.std.specs.Str.{bytes_eq}
use Rattle.std.specs.List.{concat}
use Rattle.std.proofs.lemmas.Bool.{cond_both}
use Rattle.std.proofs.lemmas.List.Elements.{All-nil, All-cons, All-head, All-tail}
use Rattle.flash_format.specs.Head.{head_of, is_free}
use Rattle.flash_format.specs.Components.{Component, component_at, components_from}
use Rattle.flash_format.specs.Splices.{AllFree, CellsBetween}
use Rattle.flash_format.proofs.CellLists.{components-append}
use Rattle.flash_format.proofs.Splices.{components-free}
use Rattle.cbfs_edit.specs.declared.fault.EditFault.TheVariants as faults

-- ---- the group, in a region of valid size

pub record IsAccepted (x name : List ℕ) (group : CellRange) : Type 0 where
  pub whole : length x % 64 ≡ 0
  pub is : IsGroupOf name (cut x).cells group
  pub cells : CellsBetween x group.start group.end
  pub range : IsCellRange group (length x)

pub accepted : (x name : List ℕ) (group : CellRange) → removal_in x name ≡ Ok group → IsAccepted x name group
unfolding removal_in
accepted x name group is =
    let a = accepted_by x (ok_or (group_from name 0 0 (cut x).cells) faults.NotFound) group is in
    let g : IsGroupOf name (cut x).cells group = group_exact x name group (found-some (group_from name 0 0 (cut x).cells) faults.NotFound group a.is) in
    let cells = between x (g.row_before ++ (g.component ∷ g.row_after)) group a.sound.whole g.range in
    record { whole = a.sound.whole; is = g; cells = cells; range = group_range x group cells (group_some x name group g) }

-- an unchanged image
pub removal_refused : (r : Range) (name : List ℕ) (fault : EditFault) (old new : List ℕ) → (let a : Result CellRange EditFault = Err fault in (IsErrOf a faults.Source → ⊥) × (IsErrOf a faults.Device ⊎ (a ≡ removal_in (bytes_in r old) name)))
    → new ≡ old → IsRemoval r name (Err fault) old new
removal_refused r name faults.Device old new answer same = inl (ap (λ (l : List ℕ). bytes_in r l) same)
removal_refused r name faults.Source old new answer same = absurd (answer.0 refl)
removal_refused r name fault old new (own, inl failed) same = absurd cc
removal_refused r name fault old new (own, inr is) same = (sym is, same)

-- a stop at a write
pub removal_leaves : (r : Range) (name : List ℕ) (group : CellRange) (old mid new : List ℕ) → LiesIn r old → length old < 2 ^ 32 → mid ≡ old
    → (let a : Result CellRange EditFault = Ok group in IsErrOf a faults.Device ⊎ (a ≡ removal_in (bytes_in r old) name))
    → IsOldOrEmptied group (space_end r.size group.end) (bytes_in r mid) (bytes_in r new) → LeavesWhole (bytes_in r old) name (bytes_in r new)
removal_leaves r name group old mid new lies small same (inl e) stop = absurd cc
removal_leaves r name group old mid new lies small same (inr e) (inl unchanged) = inl (unchanged ∙ ap (λ (l : List ℕ). bytes_in r l) same)
removal_leaves r name group old mid new lies small same (inr e) (inr stop) =
    let emptied = rw same at stop in
    let x : List ℕ = bytes_in r old in
    let y : List ℕ = bytes_in r new in
    let size : length x ≡ r.size = length-bytes_in r old lies in
    let is : IsAccepted x name group = accepted x name group (sym e) in
    let near = space_end-near r.size group.end in
    let whole = emptied-wider x group is.range (space_end r.size group.end) y emptied group.end near.0 in
    let x_small : length x < 2 ^ 32 = omega (arith, size, lies, small) in
    inr (
      group,
      sym e,
      emptied-stopped x group is.range (space_end r.size group.end) y emptied (removed x group) (length x - 4) (omega (arith, near.1, is.range.some)) near.0 (omega (arith, size, space_end-below r.size group.end (omega (arith, size, is.range.inside)) is.range.end_aligned (omega (arith, size, is.whole))))
          (inr (emptied-same x group is.range y whole is.cells x_small).components) (emptied-end x group is.range y whole is.cells x_small),
    )

-- the image after a change of its region
pub image_of : (r : Range) (u old mid new : List ℕ) → LiesIn r old → mid ≡ old → length new ≡ length mid → SameOutside r.start r.size mid new → bytes_in r new ≡ u → new ≡ overwritten old r.start u
image_of r u old mid new lies same size outside is =
    subst (λ (l : List ℕ). new ≡ overwritten l r.start u) same (image_is r mid new u (omega (arith, lies, ap length same)) size outside is)

-- ---- the first component with the name is removed, all others remain

abbrev IsOther : List ℕ → Component → Type 0
IsOther name c = bytes_eq c.name name ≡ false

-- no component has the name
pub others_have_not : (name : List ℕ) (at : ℕ) (cells : List (List ℕ)) → All (IsNot name) cells → All (IsOther name) (components_from at cells)
unfolding components_from
others_have_not name at [] none = All-nil (IsOther name)
others_have_not name at (c ∷ cells) none =
    let later : All (IsOther name) (components_from (at + length c) cells) = others_have_not name (at + length c) cells (All-tail (IsNot name) c cells none) in
    cond_both (is_free (head_of c)) _ _ (All (IsOther name)) (λ e. later) (λ e. All-cons (IsOther name) (component_at at c) (components_from (at + length c) cells) (All-head (IsNot name) c cells none e) later)

-- a component between free cells, then later cells
row_of_one : (at end : ℕ) (row more after : List (List ℕ)) (c : List ℕ) → AllFree row → AllFree more → IsComponent c → at + length (concat row) + length c + length (concat more) ≡ end
    → components_from at (row ++ (c ∷ (more ++ after))) ≡ component_at (at + length (concat row)) c ∷ components_from end after
unfolding components_from
row_of_one at end row more after c free free_more is ends =
    let next : ℕ = at + length (concat row) + length c in
    rw (components-append at row (c ∷ (more ++ after)), components-free at row free, is, components-append next more after, components-free next more free_more, ends) refl

pub removal_takes_one : (x name : List ℕ) (group : CellRange) → length x < 2 ^ 32 → removal_in x name ≡ Ok group → LosesOne x name group
removal_takes_one x name group small is =
    let a = accepted x name group is in
    let g = a.is in
    let r = g.range in
    let cells = between x (g.row_before ++ (g.component ∷ g.row_after)) group a.whole r in
    let first : 0 + length (concat r.before) ≡ group.start = omega (arith, r.start_is) in
    record {
      component = component_at (group.start + length (concat g.row_before)) g.component;
      was = record {
        before = components_from 0 r.before;
        after = components_from group.end r.after;
        whole =
            ap (λ (l : List (List ℕ)). components_from 0 l) (whole_of name (cut x).cells group g)
            ∙ rw (components-append 0 r.before (g.row_before ++ (g.component ∷ (g.row_after ++ r.after))), first) (ap (λ (l : List Component). components_from 0 r.before ++ l) (row_of_one group.start group.end g.row_before g.row_after r.after g.component (free_parts g.row_before g.row_after g.free).0 (free_parts g.row_before g.row_after g.free).1 g.is_component (end_of name (cut x).cells group g)));
        named = g.named;
        none_before = others_have_not name 0 r.before g.first;
      };
      is = emptied-components x group a.range (removed x group) (removed-whole x group a.range) cells small;
      same_end = emptied-end x group a.range (removed x group) (removed-whole x group a.range) cells small;
      emptied = λ y emptied. emptied-same x group a.range y emptied cells small;
    }
