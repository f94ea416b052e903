-- The runs of free cells, and the place of a new component.
use Rattle.std.specs.List.{filter_map, slice_get}
use Rattle.std.specs.Int.{next_multiple_of}
use Rattle.std.specs.Prelude.{◌≡◌, ℕ, ◌+◌, ◌-◌, ◌*◌, ◌/◌, ◌%◌, ◌<◌, ◌≤◌, ⊤, ◌&&◌, ◌==◌, Bool, false}
use Rattle.std.specs.Prelude.{nat_le, if◌then◌else◌, is_some, List, ◌∷◌, ◌++◌, All, length, Option}
use Rattle.std.specs.Prelude.{Some, None, Result, Err, ok_or, [], nat_lt}
use Rattle.flash_format.specs.Components.{components}
use Rattle.cbfs_walk.specs.Search.{first_named}
use Rattle.cbfs_edit.specs.Removals.{IsCellRange, space_end, unless_unsound, IsRowBetweenComponents}
use Rattle.flash_format.specs.Head.{head_of, is_free}
use Rattle.cbfs_edit.specs.declared.fault.EditFault.{EditFault}
use Rattle.cbfs_edit.specs.declared.fault.EditFault.TheVariants.{Exists, NoSpace}
use Rattle.cbfs_edit.specs.declared.group.CellRange.{CellRange}
use Rattle.cbfs_edit.specs.declared.place.Spot.{Spot}
use Rattle.cbfs_edit.specs.declared.place.Spot.TheVariants.{First, Aligned, Fixed}
use Rattle.cbfs_edit.specs.declared.place.Wanted.{Wanted}
use Rattle.cbfs_edit.specs.declared.place.Place.{Place}
use Rattle.flash_format.specs.Splices.{AllFree}
use Rattle.flash_format.specs.Cut.{cut}

-- the other runs, preceded by the run from `start` to `end`, unless the run is empty
abbrev pub add_run : ℕ → ℕ → List CellRange → List CellRange
add_run start end others =
    if nat_lt start end then record { start = start; end = end } ∷ others else others

-- The runs, as far as they end after `at`, of a region whose cells from the offset `at` on are the
-- given ones. The free cells that end at `at` begin at `start`: they belong to the first run, and
-- without such cells `start` is `at`.
unfoldable pub runs_from : ℕ → ℕ → List (List ℕ) → List CellRange
runs_from start at [] = add_run start at []
runs_from start at (cell ∷ cells) = let next = at + length cell in
    if is_free (head_of cell) then runs_from start next cells
    else add_run start at (runs_from next next cells)

-- the runs of a region: each maximal sequence of free cells
abbrev pub runs : List ℕ → List CellRange
runs x = runs_from 0 0 (cut x).cells

-- A run is a maximal sequence of free cells: the adjacent cells, if any, are components.
pub record IsRunOf (cells : List (List ℕ)) (run : CellRange) : Type 0 where
  pub row : List (List ℕ)
  pub maximal : IsRowBetweenComponents cells row run
  pub free : AllFree row
  pub some : run.start < run.end

-- an alignment of 0
abbrev pub is_bad_align : Spot → Bool
is_bad_align (Aligned unit) = unit == 0
is_bad_align spot = false

-- ---- as a relation

-- the spot allows a content that begins at `c`
abbrev pub Allows : Spot → ℕ → Type 0
Allows First c = ⊤
Allows (Aligned unit) c = c % unit ≡ 0
Allows (Fixed place) c = c ≡ place

-- The greatest end of a content in a run that ends at `end`, in a region of the given size. The
-- last four bytes of the region stay free, because older images have a pointer in these bytes. Only
-- a content at a fixed position can cover the last four bytes: the user has selected the position,
-- as for a bootblock that has to end with the region.
abbrev pub content_limit : Spot → ℕ → ℕ → ℕ
content_limit (Fixed place) size end = end
content_limit spot size end = space_end size end

-- the header begins at the largest multiple of 64 with room for the metadata before the content
pub record IsHeaderOf (wanted : Wanted) (place : Place) : Type 0 where
  pub aligned : place.header % 64 ≡ 0
  pub room : place.header + wanted.metadata_len ≤ place.content
  pub largest : place.content < place.header + 64 + wanted.metadata_len

module _ (wanted : Wanted) (size : ℕ) where
  -- the content can begin at `c` in the run: the metadata has room before it, the spot allows it,
  -- and it ends inside the limit
  pub record IsAllowed (run : CellRange) (c : ℕ) : Type 0 where
    pub after_header : run.start + wanted.metadata_len ≤ c
    pub meets : Allows wanted.spot c
    pub ends : c + wanted.len ≤ content_limit wanted.spot size run.end

  -- the content can't begin anywhere in the run
  abbrev pub HasNoRoom : CellRange → Type 0
  HasNoRoom run = (c : ℕ) → IsAllowed run c → ⊥

  -- header, metadata and content lie in the run of the place, in this order
  pub record LiesInItsRun (place : Place) : Type 0 where
    pub run : IsCellRange place.run size
    pub start_below : place.run.start ≤ place.header
    pub header : IsHeaderOf wanted place
    pub inside : place.content + wanted.len ≤ place.run.end

  -- the least allowed place in the first run with an allowed place
  pub record IsFirstPlace (runs : List CellRange) (place : Place) : Type 0 where
    pub before : List CellRange
    pub later : List CellRange
    pub whole : runs ≡ before ++ place.run ∷ later
    pub none_before : All HasNoRoom before
    pub allowed : IsAllowed place.run place.content
    pub least : (d : ℕ) → IsAllowed place.run d → place.content ≤ d
    pub header : IsHeaderOf wanted place

-- ---- as a function

-- The least start of a content that the spot allows from `from` on. A fixed spot allows a single
-- position, which is the result even below `from`; in this case the run has no room.
abbrev pub least_allowed_from : Spot → ℕ → ℕ
least_allowed_from First from = from
least_allowed_from (Aligned unit) from = next_multiple_of from unit
least_allowed_from (Fixed place) from = place

-- the place in a run whose content begins at `c`
abbrev pub place_at : Wanted → CellRange → ℕ → Place
place_at wanted run c = record {
  run = run;
  header = (c - wanted.metadata_len) / 64 * 64;
  content = c;
}

-- The place with the least allowed start in a run, if the run has room. `IsFirstPlace` says the
-- same as a relation.
abbrev pub place_in : Wanted → ℕ → CellRange → Option Place
place_in wanted size run =
    let from = run.start + wanted.metadata_len in
    let c = least_allowed_from wanted.spot from in
    if nat_le from c && nat_le (c + wanted.len) (content_limit wanted.spot size run.end)
    then Some (place_at wanted run c) else None

-- the place in the first run with room
abbrev pub first_place : Wanted → ℕ → List CellRange → Option Place
first_place wanted size runs = slice_get (filter_map (place_in wanted size) runs) 0

-- ---- with errors

abbrev pub has_component : List ℕ → List ℕ → Bool
has_component name x = is_some (first_named name (components x))

-- the place in the first run with room, or no space
abbrev pub place_or_no_space : List ℕ → Wanted → Result Place EditFault
place_or_no_space x wanted = ok_or (first_place wanted (length x) (runs x)) NoSpace

-- The place of a new component in a region, or the first error in this order: a fault of the
-- region's shape, damage at the end of its cells, a component with the name, no space.
unfoldable pub placing_in : List ℕ → List ℕ → Wanted → Result Place EditFault
placing_in x name wanted =
    unless_unsound x (if has_component name x then Err Exists else place_or_no_space x wanted)
