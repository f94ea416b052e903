-- Components: all cells of a region except free cells.
use Rattle.std.specs.Prelude.{ℕ, ◌+◌, List, [], ◌∷◌, length, slice_range, unwrap_or, if◌then◌else◌}
use Rattle.std.specs.List.{before_first}
use Rattle.std.specs.Option.{option_map_or}
use Rattle.flash_format.specs.Head.{be32, head_of, is_free}
use Rattle.flash_format.specs.Entry.{Attribute, attributes, data_of, COMPRESSION, is_nul, name_field, attribute_field}
use Rattle.flash_format.specs.Cut.{cut}

-- a position in the region, the decoded parts, and the cell
pub record Component : Type 0 where
  pub at : ℕ
  pub name : List ℕ
  pub kind : ℕ
  pub attributes : List Attribute
  pub content : List ℕ
  pub bytes : List ℕ

-- up to the first NUL
abbrev pub cell_name : List ℕ → List ℕ
cell_name x = before_first is_nul (name_field (head_of x) x)

-- well-formed in every component of a cut
abbrev pub cell_attributes : List ℕ → List Attribute
cell_attributes x = unwrap_or (attributes (attribute_field (head_of x) x)) []

abbrev pub cell_content : List ℕ → List ℕ
cell_content x = let h = head_of x in slice_range x h.offset (h.offset + h.len)

-- the compression of the first compression attribute, or 0
abbrev pub compression_of : List Attribute → ℕ
compression_of all = option_map_or (be32 0) (data_of COMPRESSION all) 0

-- the decoded parts of a cell at an offset of the region
abbrev pub component_at : ℕ → List ℕ → Component
component_at at x = record {
  at = at;
  name = cell_name x;
  kind = (head_of x).kind;
  attributes = cell_attributes x;
  content = cell_content x;
  bytes = x;
}

-- the components of neighbouring cells from a position on
unfoldable pub components_from : ℕ → List (List ℕ) → List Component
components_from at [] = []
components_from at (x ∷ cells) = let others = components_from (at + length x) cells in
    if is_free (head_of x) then others else component_at at x ∷ others

abbrev pub components : List ℕ → List Component
components x = components_from 0 (cut x).cells
