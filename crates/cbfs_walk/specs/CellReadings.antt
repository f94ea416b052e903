-- Functions of a region, cell by cell.
use Rattle.std.specs.Prelude.{◌≡◌, ℕ, ◌+◌, List, [], ◌∷◌, length, drop, Ok, Err}
use Rattle.flash_format.specs.Head.{head_of}
use Rattle.flash_format.specs.Cut.{Cut, complete, tail, damage, ends, after, cut}
use Rattle.cbfs_walk.specs.Cells.{cell_in}
use Rattle.std.specs.Option.{option_map_or}
use Rattle.cbfs_walk.specs.Shapes.{shape_fault_at}
use Rattle.cbfs_walk.specs.Walks.{StepResult}
use Rattle.cbfs_walk.specs.declared.cell.Cell.{Cell}
use Rattle.cbfs_walk.specs.declared.walk.Step.TheVariants as steps
use Rattle.cbfs_walk.specs.declared.walk.WalkFault.{WalkFault}
use Rattle.cbfs_walk.specs.declared.walk.WalkFault.TheVariants as faults

-- the position after the cells
abbrev pub place_after : ℕ → List (List ℕ) → ℕ
place_after at [] = at
place_after at (x ∷ cells) = place_after (at + length x) cells

-- a function of the cut from a position on, or the fault of the region's shape
unfoldable pub reading_of : {A : Type 0} → (WalkFault → A) → (ℕ → Cut → A) → List ℕ → ℕ → A
reading_of refuse read x at = option_map_or refuse (shape_fault_at x at) (read at (cut (drop at x)))

-- `read` is defined cell by cell
abbrev pub ReadsCells : {A : Type 0} → (ℕ → Cut → A) → (List ℕ → Cell → A → A) → Type 0
ReadsCells read each = (at : ℕ) (c : List ℕ) (k : Cut) → read at (after (c ∷ []) k)
    ≡ each c (record { at = at; head = head_of c; span = length c }) (read (at + length c) k)

abbrev pub by_answer : {A : Type 0} → (WalkFault → A) → (ℕ → Cut → A) → (List ℕ → Cell → A → A)
    → List ℕ → StepResult → A
by_answer refuse read each x (Ok (steps.Cell c)) =
    each (cell_in x c) c (reading_of refuse read x (c.at + c.span))
by_answer refuse read each x (Ok steps.End) = read (length x) (ends complete)
by_answer refuse read each x (Ok (steps.Tail at)) = read at (ends tail)
by_answer refuse read each x (Err (faults.Damaged at kind)) = read at (ends (damage kind))
by_answer refuse read each x (Err fault) = refuse fault
