-- The largest content that an addition accepts.
use Rattle.std.specs.Prelude.{ℕ, ◌-◌, Bool, false, List, [], ◌∷◌, length, max, nat_le, Option, Some, None, Result, Ok, Err}
use Rattle.std.specs.Option.{option_map, option_map_or}
use Rattle.cbfs_edit.specs.Additions.{argument_fault, new_component, wanted_for}
use Rattle.cbfs_edit.specs.Places.{content_limit, place_in, runs}
use Rattle.cbfs_edit.specs.Removals.{unless_unsound}
use Rattle.cbfs_edit.specs.declared.addition.HashChoice.{HashChoice}
use Rattle.cbfs_edit.specs.declared.fault.EditFault.{EditFault}
use Rattle.cbfs_edit.specs.declared.group.CellRange.{CellRange}
use Rattle.cbfs_edit.specs.declared.place.Spot.{Spot}
use Rattle.cbfs_edit.specs.declared.place.Place.{Place}
use Rattle.cbfs_edit.specs.declared.place.Wanted.{Wanted}

-- a content of n bytes is no larger than the largest content; every content is larger if not even
-- an empty content has a place
abbrev pub is_within : Option ℕ → ℕ → Bool
is_within largest n = option_map_or (λ most. nat_le n most) largest false

-- the length of the larger of two contents, if any
abbrev pub larger_of : Option ℕ → Option ℕ → Option ℕ
larger_of None other = other
larger_of (Some n) None = Some n
larger_of (Some n) (Some m) = Some (max n m)

-- The length of the largest content with a place in a run: from the place of an empty content to
-- the limit. `empty` is the request with an empty content.
abbrev pub room_in : Wanted → ℕ → CellRange → Option ℕ
room_in empty size run = option_map
    (λ (place : Place). content_limit empty.spot size run.end - place.content)
    (place_in empty size run)

-- the length of the largest content with a place in any of the runs
unfoldable pub largest_room : Wanted → ℕ → List CellRange → Option ℕ
largest_room empty size [] = None
largest_room empty size (run ∷ runs) =
    larger_of (room_in empty size run) (largest_room empty size runs)

-- the length of the largest content in a region of sound cells, or the first error
abbrev pub room_of : Wanted → List ℕ → Result (Option ℕ) EditFault
room_of empty x = unless_unsound x (Ok (largest_room empty (length x) (runs x)))

-- the length of the largest content that an addition with these arguments accepts, or the first
-- error
abbrev pub largest_content_in : List ℕ → List ℕ → ℕ → HashChoice → Spot
    → Result (Option ℕ) EditFault
largest_content_in x name kind hash spot = option_map_or (λ fault. Err fault)
    (argument_fault name kind spot)
    (room_of (wanted_for (new_component name kind hash []) spot) x)
