-- Laws of walks.
use Rattle.std.specs.Prelude.{◌≡◌, ◌↔◌, ℕ, ◌+◌, Contains, List, [], ◌∷◌, length, drop, slice_range, Some, None, Ok, Err}
use Rattle.flash_format.specs.Head.{head_of}
use Rattle.flash_format.specs.Cut.{complete, tail, damage, ends, after, cut}
use Rattle.flash_format.specs.Components.{Component, components, cell_content}
use Rattle.flash_device.specs.Regions.{Range, bytes_in}
use Rattle.cbfs_walk.specs.Cells.{cell_in}
use Rattle.cbfs_walk.specs.Search.{IsFirstOf, component_in}
use Rattle.cbfs_walk.specs.Shapes.{shape_fault_at, shape_fault}
use Rattle.cbfs_walk.specs.Walks.{StepResult}
use Rattle.cbfs_walk.specs.declared.cell.Cell.{Cell}
use Rattle.cbfs_walk.specs.declared.walk.Step.TheVariants as steps
use Rattle.cbfs_walk.specs.declared.walk.WalkFault.TheVariants as faults

-- a walk's result is the next part of the cut, or the fault of the region's shape
abbrev pub GoesOn : List ℕ → ℕ → StepResult → Type 0
GoesOn x at (Ok (steps.Cell c)) =
    (c.at ≡ at) × (cut (drop at x) ≡ after (cell_in x c ∷ []) (cut (drop (at + c.span) x)))
GoesOn x at (Ok steps.End) = (at ≡ length x) × (cut (drop at x) ≡ ends complete)
GoesOn x at (Ok (steps.Tail p)) = (p ≡ at) × (cut (drop at x) ≡ ends tail)
GoesOn x at (Err (faults.Damaged p kind)) = (p ≡ at) × (cut (drop at x) ≡ ends (damage kind))
GoesOn x at (Err fault) = shape_fault_at x at ≡ Some fault

-- head, length and content of a cell equal the image's bytes
pub record CellBytes (region : Range) (image : List ℕ) (c : Cell) : Type 0 where
  pub head : head_of (cell_in (bytes_in region image) c) ≡ c.head
  pub span : length (cell_in (bytes_in region image) c) ≡ c.span
  pub content : cell_content (cell_in (bytes_in region image) c) ≡ slice_range image
      (region.start + c.at + c.head.offset) (region.start + c.at + c.head.offset + c.head.len)

pub record SearchesFindTheFirst : Type 0 where
  -- a component is found exactly in a region of valid shape, if it is the first with the name
  pub first : (x name : List ℕ) (c : Component) → (component_in x name ≡ Ok (Some c))
      ↔ (shape_fault x ≡ None) × IsFirstOf name (components x) c
  -- in a region of valid shape, the name of each component in the list is found
  pub listed : (x : List ℕ) (c : Component) → shape_fault x ≡ None → Contains (components x) c
      → (d : Component) × (component_in x c.name ≡ Ok (Some d))
