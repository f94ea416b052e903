-- A search finds an added component, and a removal takes it.
use Rattle.std.proofs.Common.{◌≡◌, ℕ, ◌%◌, ◌<◌, ◌≤◌, All, length-append, false, List, [], ◌∷◌, ◌++◌, length, None, refl, sym, ◌∙◌, ap, arith, true, Option, Some, Ok, Err, subst, Contains}
use Rattle.std.specs.Prelude.{ok_or}
use Rattle.std.specs.Str.{bytes_eq}
use Rattle.std.proofs.lemmas.List.Elements.{All-nil, All-cons, All-head, All-tail, All-weaker, All-contains, Contains-append_right}
use Rattle.std.proofs.lemmas.Bool.{eq-eqb, ne_eqb, both_ways}
use Rattle.flash_format.specs.Entry.{absent}
use Rattle.flash_format.specs.Cut.{Cut, cut, End}
use Rattle.flash_format.specs.Components.{Component, components, components_from}
use Rattle.flash_format.specs.Placings.{space_cells}
use Rattle.flash_format.proofs.CutSteps.{cut_step}
use Rattle.flash_format.proofs.CutLaws.{cut_unique}
use Rattle.flash_format.proofs.Placings.{one_more-end}
use Rattle.cbfs_walk.specs.Search.{IsFirstOf, component_in, first_named}
use Rattle.std.specs.Option.{option_map_or}
use Rattle.cbfs_walk.proofs.Checks.{entry_absent}
use Rattle.flash_format.specs.declared.head.Head.{Head}
use Rattle.flash_format.specs.Entry.{front}
use Rattle.std.specs.Prelude.{is_some, not}
use Rattle.cbfs_walk.specs.Shapes.{has_bad_size, shape_fault}
use Rattle.cbfs_walk.proofs.FirstComponents.{first_found, none_named, same_name}
use Rattle.cbfs_edit.specs.Additions.{NewComponent, added, added_component, empty_between, cell_end, made_at}
use Rattle.cbfs_edit.specs.Laws.{AddsOne, IsAdded, LosesOne}
use Rattle.cbfs_edit.specs.declared.place.Spot.{Spot}
use Rattle.cbfs_edit.specs.declared.place.Place.{Place}
use Rattle.cbfs_edit.proofs.AdditionLemmas.{accepted_size, added_length, content, more, the_run, there, region_some}
use Rattle.cbfs_walk.specs.CellReadings.{place_after}
use Rattle.cbfs_walk.specs.declared.walk.WalkFault.{WalkFault}
use Rattle.cbfs_edit.specs.Changes.{SameCells}
use Rattle.flash_format.specs.Splices.{CellsBetween}
use Rattle.cbfs_edit.specs.Removals.{group_from, removed, removal_in, edit_fault_of}
use Rattle.cbfs_edit.specs.Removals.{unless_damaged}
use Rattle.cbfs_edit.specs.declared.fault.EditFault.TheVariants as faults
use Rattle.cbfs_edit.specs.declared.group.CellRange.{CellRange}
use Rattle.cbfs_edit.proofs.Groups.{group_none}
use Rattle.cbfs_edit.proofs.Lists.{one_split}
use Rattle.cbfs_edit.proofs.Removals.{others_have_not, removal_takes_one}

all_left : (P : Component → Type 0) (a b : List Component) → All P (a ++ b) → All P a
all_left P [] b each = All-nil P
all_left P (c ∷ a) b each = All-cons P c a (All-head P c (a ++ b) each) (all_left P a b (All-tail P c (a ++ b) each))

-- ---- the shape of a region with a cell

fine_size : (n : ℕ) → 0 < n → n % 64 ≡ 0 → has_bad_size n ≡ false
fine_size n some whole = rw (ne_eqb n 0 (λ (e : n ≡ 0). omega (arith, e, some)), eq-eqb (n % 64) 0 whole) refl

cell_there : (x : List ℕ) → 0 < length x → 0 < length (cut x).cells → not (is_some (front x)) ≡ false
cell_there x some cells = go (front x) refl
  where
    go : (o : Option Head) → front x ≡ o → not (is_some o) ≡ false
    go None e = absurd (omega (arith, cells, ap (λ (k : Cut). length k.cells) (cut_step x absent some (sym (entry_absent x (sym e))))))
    go (Some h) e = refl

one_among : (a b c d : List (List ℕ)) (m : List ℕ) → 0 < length (a ++ (b ++ (m ∷ []) ++ c) ++ d)
one_among a b c d m = simp length-append (omega arith)

-- ---- the region after an addition

module _ (x : List ℕ) (new : NewComponent) (spot : Spot) (place : Place) (is : IsAdded x new spot place) where
  abbrev pub cells_between : CellsBetween x place.run.start place.run.end
  cells_between = (the_run x new spot place is).cells

  pub shape_after : shape_fault (added x new place) ≡ None
  shape_after =
      let row : List (List ℕ) = space_cells (empty_between x place.run.start place.header) ++ (made_at x new place ∷ []) ++ space_cells (empty_between x (cell_end new place) place.run.end) in
      let cells : length (cut (added x new place)).cells ≡ length (cells_between.before ++ row ++ cells_between.after) = ap (λ (c : Cut). length c.cells) (cut_unique (added x new place) (cells_between.before ++ row ++ cells_between.after) cells_between.rest cells_between.ending (more x new spot place is).is_cut) in
      let long : length (added x new place) ≡ length x = added_length x new spot place is in
      let some : 64 ≤ length x = region_some x new spot place is in
      rw (fine_size (length (added x new place)) (omega arith) (ap (λ n. n % 64) long ∙ accepted_size x new spot place is.placed), cell_there (added x new place) (omega arith) (rw cells (one_among cells_between.before _ _ cells_between.after (made_at x new place)))) refl

  abbrev pub before : List Component
  before = components_from 0 cells_between.before

  abbrev pub after : List Component
  after = components_from place.run.end cells_between.after

  -- no other component has the name
  others_after : All (λ (c : Component). bytes_eq c.name new.name ≡ false) (before ++ after)
  others_after =
      let none : first_named new.name (components x) ≡ None = (there x new spot place is).no_other in
      none_named new.name (before ++ after) (sym (ap (λ (l : List Component). first_named new.name l) (more x new spot place is).old_components) ∙ none)

  pub none_before : All (λ (c : Component). bytes_eq c.name new.name ≡ false) before
  none_before = all_left (λ (c : Component). bytes_eq c.name new.name ≡ false) before after others_after

  pub added_first : IsFirstOf new.name (components (added x new place)) (added_component x new place)
  added_first = record {
    before = before;
    after = after;
    whole = (more x new spot place is).new_components;
    named = same_name new.name;
    none_before = none_before;
  }

  pub additions_found : component_in (added x new place) new.name ≡ Ok (Some (added_component x new place))
  additions_found = first_found (added x new place) new.name (added_component x new place) shape_after added_first

-- ---- the removal of an added component restores the previous components

abbrev IsNamed : List ℕ → Component → Type 0
IsNamed name c = bytes_eq c.name name ≡ true

unnamed : (name : List ℕ) (cs : List Component) → All (λ (c : Component). bytes_eq c.name name ≡ false) cs → All (λ c. IsNamed name c → ⊥) cs
unnamed name cs none = All-weaker (λ (c : Component). bytes_eq c.name name ≡ false) (λ c. IsNamed name c → ⊥) (λ (c : Component) other. both_ways (bytes_eq c.name name) other) cs none

removal_is : (y name : List ℕ) → shape_fault y ≡ None → unless_damaged (place_after 0 (cut y).cells) (cut y).end (ok_or (group_from name 0 0 (cut y).cells) faults.NotFound) ≡ ok_or (group_from name 0 0 (cut y).cells) faults.NotFound → removal_in y name ≡ ok_or (group_from name 0 0 (cut y).cells) faults.NotFound
unfolding removal_in
removal_is y name good through = ap (λ (o : Option WalkFault). option_map_or (λ fault. Err (edit_fault_of fault)) o (unless_damaged (place_after 0 (cut y).cells) (cut y).end (ok_or (group_from name 0 0 (cut y).cells) faults.NotFound))) good ∙ through

-- a component with the name has a group
some_group : (y name : List ℕ) (c : Component) → IsFirstOf name (components y) c → (group : CellRange) × (group_from name 0 0 (cut y).cells ≡ Some group)
some_group y name c is = go (group_from name 0 0 (cut y).cells) refl
  where
    go : (o : Option CellRange) → group_from name 0 0 (cut y).cells ≡ o → (group : CellRange) × (group_from name 0 0 (cut y).cells ≡ Some group)
    go (Some group) e = (group, e)
    go None e =
        let others = others_have_not name 0 (cut y).cells (group_none y name e) in
        let here : Contains (components y) c = subst (λ (l : List Component). Contains l c) (sym is.whole) (Contains-append_right is.before (c ∷ is.after) c (0, omega arith, refl)) in
        let other : bytes_eq c.name name ≡ false = All-contains (λ (d : Component). bytes_eq d.name name ≡ false) (components y) c others here in
        absurd (let k : true ≡ false = sym is.named ∙ other in cc)

module _ (x : List ℕ) (new : NewComponent) (spot : Spot) (place : Place) (is : IsAdded x new spot place) where
  undone : (group : CellRange) × (removal_in (added x new place) new.name ≡ Ok group) × SameCells (removed (added x new place) group) x
  undone =
      let y : List ℕ = added x new place in
      let one_more = more x new spot place is in
      let some = some_group y new.name (added_component x new place) (added_first x new spot place is) in
      let group : CellRange = some.0 in
      let sound = (there x new spot place is).sound in
      let at = place_after 0 (cut y).cells in
      let removes : removal_in y new.name ≡ Ok group =
      removal_is y new.name (shape_after x new spot place is) (ap (λ (e : End). unless_damaged at e (ok_or (group_from new.name 0 0 (cut y).cells) faults.NotFound)) (one_more-end _ _ _ _ _ _ _ one_more) ∙ sound.undamaged at (ok_or (group_from new.name 0 0 (cut y).cells) faults.NotFound)) ∙ ap (λ (o : Option CellRange). ok_or o faults.NotFound) some.1 in
      let loses : LosesOne y new.name group = removal_takes_one y new.name group (omega (arith, added_length x new spot place is, is.region)) removes in
      let was = loses.was in
      let once = one_split (IsNamed new.name) was.before was.after (before x new spot place is) (after x new spot place is) loses.component (added_component x new place) was.named (same_name new.name)
      (unnamed new.name was.before was.none_before) (unnamed new.name (before x new spot place is) (none_before x new spot place is))
      (sym was.whole ∙ one_more.new_components) in (
        group,
        removes,
        record {
          components = loses.is ∙ ap (λ (l : List Component). l ++ was.after) once.first ∙ ap (λ (l : List Component). before x new spot place is ++ l) once.last ∙ sym one_more.old_components;
          end = loses.same_end ∙ one_more-end _ _ _ _ _ _ _ one_more;
        },
      )

  pub adds_one : AddsOne x new place
  adds_one = record {
    cells = cells_between x new spot place is;
    free = (the_run x new spot place is).free;
    more = more x new spot place is;
    content = content x new spot place is;
    found = additions_found x new spot place is;
    undone = undone;
  }
