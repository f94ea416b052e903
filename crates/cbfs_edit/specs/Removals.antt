-- The effect and errors of a removal. A group is a component with its adjacent free cells.
use Rattle.std.specs.List.{concat, last_or, slice_get}
use Rattle.std.specs.Prelude.{ℕ, ◌+◌, ◌%◌, ◌≡◌, ◌≤◌, IfSome, true, false, All, List, [], ◌∷◌, ◌++◌}
use Rattle.std.specs.Prelude.{length, Option, Some, None, if◌then◌else◌, ◌-◌, drop, Result, Err}
use Rattle.std.specs.Prelude.{ok_or, ◌==◌}
use Rattle.std.specs.Str.{bytes_eq}
use Rattle.flash_format.specs.Head.{head_of, is_free}
use Rattle.flash_format.specs.Cut.{End, cut, damage}
use Rattle.flash_format.specs.Components.{cell_name}
use Rattle.flash_format.specs.Splices.{AllFree}
use Rattle.cbfs_edit.specs.declared.group.CellRange.{CellRange}
use Rattle.flash_format.specs.Made.{empty_entry}
use Rattle.flash_device.specs.Device.{overwritten}
use Rattle.std.specs.Option.{option_map_or}
use Rattle.cbfs_walk.specs.Shapes.{shape_fault}
use Rattle.cbfs_walk.specs.CellReadings.{place_after}
use Rattle.cbfs_walk.specs.declared.walk.WalkFault.{WalkFault}
use Rattle.cbfs_walk.specs.declared.walk.WalkFault.TheVariants as faults
use Rattle.cbfs_edit.specs.declared.fault.EditFault.{EditFault}
use Rattle.cbfs_edit.specs.declared.fault.EditFault.TheVariants.{RegionShape, NotCbfs, Damaged}
use Rattle.cbfs_edit.specs.declared.fault.EditFault.TheVariants.{Device, NotFound}

-- the end of the free cells that follow `at` without a component between
unfoldable pub row_end : ℕ → List (List ℕ) → ℕ
row_end at [] = at
row_end at (cell ∷ cells) =
    if is_free (head_of cell) then row_end (at + length cell) cells else at

-- The first component with the name, and the adjacent free cells, among cells that begin at the
-- offset `at`. The free cells directly before `at` begin at `start`; without such cells `start` is
-- `at`.
unfoldable pub group_from : List ℕ → ℕ → ℕ → List (List ℕ) → Option CellRange
group_from name start at [] = None
group_from name start at (cell ∷ cells) = let next = at + length cell in
    if is_free (head_of cell) then group_from name start next cells
    else (if bytes_eq (cell_name cell) name
    then Some (record { start = start; end = row_end next cells })
    else group_from name next next cells)

-- multiples of 64 in a region of the given size
pub record IsCellRange (group : CellRange) (size : ℕ) : Type 0 where
  pub some : group.start + 64 ≤ group.end
  pub start_aligned : group.start % 64 ≡ 0
  pub end_aligned : group.end % 64 ≡ 0
  pub inside : group.end ≤ size

-- ---- as a relation

abbrev pub IsComponent : List ℕ → Type 0
IsComponent c = is_free (head_of c) ≡ false

-- no component with the name
abbrev pub IsNot : List ℕ → List ℕ → Type 0
IsNot name c = IsComponent c → bytes_eq (cell_name c) name ≡ false

-- The range has the bytes of a row of neighbouring cells. The cells directly before and after the
-- row, if any, are components: the row omits no adjacent free cell.
pub record IsRowBetweenComponents (cells row : List (List ℕ)) (range : CellRange) : Type 0 where
  pub before : List (List ℕ)
  pub after : List (List ℕ)
  pub whole : cells ≡ before ++ (row ++ after)
  pub no_more_before : IfSome (last_or None before) IsComponent
  pub no_more_after : IfSome (slice_get after 0) IsComponent
  pub start_is : length (concat before) ≡ range.start
  pub end_is : range.start + length (concat row) ≡ range.end

-- A group is the first component with the name, and all adjacent free cells.
pub record IsGroupOf (name : List ℕ) (cells : List (List ℕ)) (group : CellRange) : Type 0 where
  pub row_before : List (List ℕ)
  pub component : List ℕ
  pub row_after : List (List ℕ)
  pub range : IsRowBetweenComponents cells (row_before ++ (component ∷ row_after)) group
  pub is_component : IsComponent component
  pub named : bytes_eq (cell_name component) name ≡ true
  pub first : All (IsNot name) range.before
  pub free : AllFree (row_before ++ row_after)

abbrev pub last_four : List ℕ → List ℕ
last_four x = drop (length x - 4) x

-- the preserved bytes of a cell with the given end
abbrev pub kept_at : List ℕ → ℕ → Option (List ℕ)
kept_at x end = if end == length x then Some (last_four x) else None

-- the end of the erased space: the region's last four bytes remain
abbrev pub space_end : ℕ → ℕ → ℕ
space_end size end = if end == size then end - 4 else end

-- a single empty entry in place of a group
abbrev pub removed : List ℕ → CellRange → List ℕ
removed x group =
    overwritten x group.start (empty_entry (group.end - group.start) (kept_at x group.end))

abbrev pub edit_fault_of : WalkFault → EditFault
edit_fault_of faults.Device = Device
edit_fault_of faults.RegionShape = RegionShape
edit_fault_of faults.NotCbfs = NotCbfs
edit_fault_of (faults.Damaged at kind) = Damaged at kind

-- the result, or the damage at the end of the cells
abbrev pub unless_damaged : {A : Type 0} → ℕ → End → Result A EditFault → Result A EditFault
unless_damaged at (damage kind) otherwise = Err (Damaged at kind)
unless_damaged at end otherwise = otherwise

-- the result, or an error of the region's shape, or the damage at the end of its cells
abbrev pub unless_unsound : {A : Type 0} → List ℕ → Result A EditFault → Result A EditFault
unless_unsound x otherwise = option_map_or (λ fault. Err (edit_fault_of fault)) (shape_fault x)
    (unless_damaged (place_after 0 (cut x).cells) (cut x).end otherwise)

-- the group, or the first error
unfoldable pub removal_in : List ℕ → List ℕ → Result CellRange EditFault
removal_in x name = unless_unsound x (ok_or (group_from name 0 0 (cut x).cells) NotFound)
