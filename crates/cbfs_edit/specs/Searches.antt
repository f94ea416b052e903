-- Searches cell by cell.
use Rattle.std.specs.Option.{option_or}
use Rattle.std.specs.Prelude.{◌≡◌, ℕ, ◌%◌, ◌^◌, ◌<◌, ◌≤◌, ◌||◌, is_some, List, IfSome}
use Rattle.std.specs.Prelude.{false, ok_or, ◌+◌, ◌/◌, ◌⊎◌, IsErrOf, IfOk, if◌then◌else◌, Result}
use Rattle.std.specs.Prelude.{Ok, Err, Option}
use Rattle.flash_device.specs.Device.{fault_count}
use Rattle.flash_device.specs.Pages.{Pages, HasRead, OnHonestIn}
use Rattle.flash_device.specs.Regions.{Range}
use Rattle.cbfs_edit.specs.Changes.{by_device}
use Rattle.flash_format.specs.Components.{components_from}
use Rattle.cbfs_walk.specs.Search.{first_named}
use Rattle.cbfs_edit.specs.Removals.{IsCellRange, group_from, row_end}
use Rattle.cbfs_edit.specs.Places.{runs_from}
use Rattle.cbfs_edit.specs.Places.{LiesInItsRun, first_place, is_bad_align}
use Rattle.cbfs_edit.specs.Rooms.{larger_of, largest_room}
use Rattle.cbfs_edit.specs.declared.fault.EditFault.{EditFault}
use Rattle.cbfs_edit.specs.declared.fault.EditFault.TheVariants.{Device, Source, NotFound}
use Rattle.cbfs_edit.specs.declared.fault.EditFault.TheVariants.{Exists, NoSpace}
use Rattle.cbfs_edit.specs.declared.group.CellRange.{CellRange}
use Rattle.cbfs_edit.specs.declared.group.Search.{Search}
use Rattle.cbfs_edit.specs.declared.group.Search.TheVariants.{Looking, Growing, Whole}
use Rattle.cbfs_edit.specs.declared.place.Survey.{Survey}
use Rattle.cbfs_edit.specs.declared.room.RoomSurvey.{RoomSurvey}
use Rattle.cbfs_edit.specs.declared.place.Wanted.{Wanted}
use Rattle.cbfs_edit.specs.declared.place.Place.{Place}

-- A search of a region. On an honest device, the result is `by` of its bytes, or a device fault.
pub record HasSearched {F T : Type 0} (by : List ℕ → Result T EditFault) (region : Range)
    (Is : T → Type 0) (old new : Pages F) (result : Result T EditFault) : Type 0 where
  pub after : HasRead (region.size / 16 + 1) (fault_count by_device result) old new
  pub no_source : IsErrOf result Source → ⊥
  pub found : IfOk result Is
  pub answer : OnHonestIn old.device region (λ x. IsErrOf result Device ⊎ (result ≡ by x))

-- The result of a search for a group that has passed some cells, by its state and the remaining
-- cells, which begin at `at`.
abbrev pub group_by : List ℕ → Search → ℕ → List (List ℕ) → Result CellRange EditFault
group_by name (Looking start) at cells = ok_or (group_from name start at cells) NotFound
group_by name (Growing group) at cells =
    Ok (record { start = group.start; end = row_end group.end cells })
group_by name (Whole group) at cells = Ok group

-- the search covers complete cells before its offset
abbrev pub IsBefore : ℕ → Search → Type 0
IsBefore at (Looking start) = (start ≤ at) × (start % 64 ≡ 0)
IsBefore at (Growing group) = IsCellRange group at
IsBefore at (Whole group) = IsCellRange group at

-- The result of a search for a place that has passed some cells, by its state and the remaining
-- cells.
abbrev pub place_by : List ℕ → Wanted → ℕ → Survey → List (List ℕ) → Result Place EditFault
place_by name wanted size s cells =
    let exists = s.exists || is_some (first_named name (components_from s.row.end cells)) in
    let place = first_place wanted size (runs_from s.row.start s.row.end cells) in
    if exists then Err Exists else ok_or (option_or s.place place) NoSpace

-- the bounds of row and place; the row may be empty
pub record IsSurvey (wanted : Wanted) (size at : ℕ) (s : Survey) : Type 0 where
  pub spot : is_bad_align wanted.spot ≡ false
  pub small : size < 2 ^ 32
  pub here : s.row.end ≡ at
  pub row : (s.row.start ≡ s.row.end) ⊎ IsCellRange s.row size
  pub place : IfSome s.place (LiesInItsRun wanted size)

-- The result of a search for the largest content that has passed some cells, by its state and the
-- remaining cells.
abbrev pub room_by : Wanted → ℕ → RoomSurvey → List (List ℕ) → Option ℕ
room_by empty size s cells =
    larger_of s.largest (largest_room empty size (runs_from s.row.start s.row.end cells))

-- the bounds of the row, which may be empty
pub record IsRoomSurvey (empty : Wanted) (size at : ℕ) (s : RoomSurvey) : Type 0 where
  pub spot : is_bad_align empty.spot ≡ false
  pub small : size < 2 ^ 32
  pub here : s.row.end ≡ at
  pub row : (s.row.start ≡ s.row.end) ⊎ IsCellRange s.row size
