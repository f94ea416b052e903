-- The placement of a component in free cells.
use Rattle.std.specs.Prelude.{◌≡◌, ℕ, ◌<◌, Bool, false, List, [], ◌∷◌, ◌++◌, length, Option}
use Rattle.std.specs.Option.{option_map_or}
use Rattle.flash_format.specs.declared.digest.Digest.{Digest}
use Rattle.flash_format.specs.Made.{empty_header, hash_contents}
use Rattle.flash_format.specs.Head.{head_of, is_free}
use Rattle.flash_format.specs.Entry.{Attribute, HASH, cell, entry}
use Rattle.flash_format.specs.Cut.{IsCut}
use Rattle.flash_format.specs.Components.{Component, component_at, components_from, components}
use Rattle.flash_format.specs.Splices.{CellsBetween}

-- The bytes begin with the header of an empty entry of this size. Any bytes can follow the header.
-- With `kept`, the length in the header leaves out the last four bytes.
abbrev pub BeginsWithEmptyHeader : ℕ → List ℕ → Type 0
BeginsWithEmptyHeader size bytes =
    (kept : Bool) × (more : List ℕ) × (bytes ≡ empty_header size kept ++ more)

-- free space of this size: no byte, or a single empty entry over all bytes
pub record IsFreeSpace (size : ℕ) (bytes : List ℕ) : Type 0 where
  pub long : length bytes ≡ size
  pub header : 0 < size → BeginsWithEmptyHeader size bytes

-- the cells of free space: none, or its empty entry
abbrev pub space_cells : List ℕ → List (List ℕ)
space_cells [] = []
space_cells (b ∷ bytes) = (b ∷ bytes) ∷ []

-- the attributes of a written component: a hash attribute if it has a digest, and no other
abbrev pub made_attributes : Option Digest → List Attribute
made_attributes digest =
    option_map_or (λ d. record { tag = HASH; contents = hash_contents d } ∷ []) digest []

-- a component that is written at this offset, in a cell of the bytes x
abbrev pub made_component : ℕ → List ℕ → ℕ → Option Digest → List ℕ → List ℕ → Component
made_component at name kind digest content x = record {
  at = at;
  name = name;
  kind = kind;
  attributes = made_attributes digest;
  content = content;
  bytes = x;
}

-- The bytes x decode as a component with this name, type, digest and content, whose cell has `span`
-- bytes. More bytes can follow the cell in x.
pub record DecodesAs (name : List ℕ) (kind : ℕ) (digest : Option Digest) (content : List ℕ)
    (x : List ℕ) (span : ℕ) : Type 0 where
  -- an undamaged entry of this span begins x
  pub is_cell : entry x ≡ cell span
  -- it is a component, and no free cell
  pub is_used : is_free (head_of x) ≡ false
  -- its decoded parts are the given ones, wherever it stands
  pub component : (at : ℕ) → component_at at x ≡ made_component at name kind digest content x

-- The region y is the region x with one more component: `cells` stand in place of the free cells
-- `g.group` from start to end, and `component` is their only component.
pub record HasOneMoreComponent (x : List ℕ) (start end : ℕ) (g : CellsBetween x start end)
    (cells : List (List ℕ)) (component : Component) (y : List ℕ) : Type 0 where
  -- y has the cells of x before and after the group, and ends as x does
  pub is_cut : IsCut y (g.before ++ cells ++ g.after) g.rest g.ending
  -- x has the components before and after the group
  pub old_components : components x ≡ components_from 0 g.before ++ components_from end g.after
  -- y has the same, and `component` between them
  pub new_components : components y
      ≡ components_from 0 g.before ++ (component ∷ components_from end g.after)
