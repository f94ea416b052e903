-- The laws of edits.
use Rattle.std.specs.Prelude.{◌≡◌, ◌↔◌, ℕ, ◌+◌, ◌%◌, ◌^◌, ◌<◌, All, Contains, List, [], ◌∷◌, ◌++◌}
use Rattle.std.specs.Prelude.{false, length, slice_range, Ok, Option, Some, MatchOption}
use Rattle.std.specs.List.{AllPairs}
use Rattle.flash_format.specs.Cut.{cut}
use Rattle.flash_format.specs.Components.{Component, components}
use Rattle.flash_format.specs.Made.{IsDigest}
use Rattle.flash_format.specs.Placings.{HasOneMoreComponent, space_cells}
use Rattle.flash_format.specs.Splices.{AllFree, CellsBetween}
use Rattle.cbfs_walk.specs.Search.{IsFirstOf, component_in}
use Rattle.cbfs_edit.specs.Additions.{NewComponent, added, added_component, addition_in, cell_end}
use Rattle.cbfs_edit.specs.Additions.{empty_between, made_at}
use Rattle.cbfs_edit.specs.Removals.{group_from, IsNot, IsGroupOf, removed, removal_in}
use Rattle.cbfs_edit.specs.Changes.{IsEmptied, SameCells}
use Rattle.cbfs_edit.specs.Places.{runs, IsRunOf}
use Rattle.cbfs_edit.specs.Places.{HasNoRoom, IsFirstPlace, first_place, is_bad_align}
use Rattle.cbfs_edit.specs.declared.group.CellRange.{CellRange}
use Rattle.cbfs_edit.specs.declared.place.Wanted.{Wanted}
use Rattle.cbfs_edit.specs.declared.place.Place.{Place}
use Rattle.cbfs_edit.specs.declared.place.Spot.{Spot}

-- A search for a group, a run or a place finds exactly what the relation says.
pub record SearchesAreExact (x : List ℕ) : Type 0 where
  -- the first component with the name and all adjacent free cells
  pub groups : (name : List ℕ) (found : Option CellRange)
      → MatchOption found (All (IsNot name) (cut x).cells) (IsGroupOf name (cut x).cells)
      ↔ (found ≡ group_from name 0 0 (cut x).cells)
  -- the maximal sequences of adjacent free cells
  pub free : (run : CellRange) → Contains (runs x) run ↔ IsRunOf (cut x).cells run
  -- with a cell between two runs
  pub order : length x % 64 ≡ 0 → AllPairs (λ (a b : CellRange). a.end < b.start) (runs x)
  -- an empty entry's header over a run keeps the components, for any other bytes
  pub emptied : (run : CellRange) (y : List ℕ) → length x % 64 ≡ 0 → length x < 2 ^ 32
      → Contains (runs x) run → IsEmptied run run.end x y → SameCells y x
  -- the least allowed place in the first run with an allowed place
  pub places : (wanted : Wanted) (found : Option Place) → is_bad_align wanted.spot ≡ false
      → MatchOption found (All (HasNoRoom wanted (length x)) (runs x))
      (IsFirstPlace wanted (length x) (runs x)) ↔ (found ≡ first_place wanted (length x) (runs x))

-- A removal takes the first component with the name, and keeps all others.
pub record LosesOne (x name : List ℕ) (group : CellRange) : Type 0 where
  pub component : Component
  pub was : IsFirstOf name (components x) component
  pub is : components (removed x group) ≡ was.before ++ was.after
  pub same_end : (cut (removed x group)).end ≡ (cut x).end
  -- an empty entry's header over the group removes the component, for any other bytes
  pub emptied : (y : List ℕ) → IsEmptied group group.end x y → SameCells y (removed x group)

-- an addition of 32-bit numbers and a complete digest
pub record IsAdded (x : List ℕ) (new : NewComponent) (spot : Spot) (place : Place) : Type 0 where
  pub region : length x < 2 ^ 32
  pub kind : new.kind < 2 ^ 32
  pub digest : IsDigest new.digest
  pub placed : addition_in x new spot ≡ Ok place

-- An addition creates one component in place of free cells, with its content at the returned
-- offset, and keeps all others.
pub record AddsOne (x : List ℕ) (new : NewComponent) (place : Place) : Type 0 where
  pub cells : CellsBetween x place.run.start place.run.end
  pub free : AllFree cells.group
  pub more : HasOneMoreComponent x place.run.start place.run.end cells
      (space_cells (empty_between x place.run.start place.header) ++ (made_at x new place ∷ [])
      ++ space_cells (empty_between x (cell_end new place) place.run.end))
      (added_component x new place) (added x new place)
  pub content : slice_range (added x new place) place.content (place.content + length new.content)
      ≡ new.content
  -- a search finds the component
  pub found : component_in (added x new place) new.name ≡ Ok (Some (added_component x new place))
  -- a removal restores the previous components; free space can differ
  pub undone : (group : CellRange) × (removal_in (added x new place) new.name ≡ Ok group)
      × SameCells (removed (added x new place) group) x
