-- Areas of an image by name, and the components of a CBFS area.
use Rattle.std.specs.Prelude.{ℕ, ◌+◌, Bool, ◌&&◌, List, [], Option, Some, None, map, nat_le, not, ◌==◌, if◌then◌else◌}
use Rattle.std.specs.List.{find, fold}
use Rattle.std.specs.Option.{option_and_then, option_map_or}
use Rattle.flash_device.specs.Regions.{Range, bytes_in}
use Rattle.flash_format.specs.Components.{Component, components}
use Rattle.flash_format.specs.Head.{head_of, is_free, round64}
use Rattle.cbfs_anchor.specs.Metadata.{bootblock_type, header_type}
use Rattle.cbfs_walk.specs.Shapes.{shape_fault}
use Rattle.cbfs_walk.specs.declared.cell.Cell.{Cell}
use Rattle.check_findings.specs.Areas.{area_end, has_name}
use Rattle.check_findings.specs.ImageFindings.{range_of}
use Rattle.check_findings.specs.Lists.{only_if}
use Rattle.check_findings.specs.RegionFindings.{entry_range}
use Rattle.check_findings.specs.declared.areas.NumberedArea.{NumberedArea}
use Rattle.board_findings.specs.declared.components.Placed.{Placed}

-- ---- areas

-- an area that ends outside the image of n bytes has no range
abbrev pub range_inside : ℕ → NumberedArea → Option Range
range_inside n a = if nat_le (area_end a.area) n then Some (range_of a) else None

-- the range of the first area named `name`, if the area lies inside the image of n bytes
abbrev pub range_named : ℕ → List NumberedArea → List ℕ → Option Range
range_named n areas name = option_and_then (range_inside n) (find (has_name name) areas)

-- ---- components

-- a component by its type and the range of its content
abbrev pub placed : Component → Placed
placed c = let head = head_of c.bytes in
    record { kind = head.kind; start = c.at + head.offset; len = head.len }

-- the component of a cell; none of free space
abbrev pub cell_placed : Cell → List Placed
cell_placed c = only_if (not (is_free c.head))
    (record { kind = c.head.kind; start = c.at + c.head.offset; len = c.head.len })

-- the components of a region up to a damage; none without a valid shape
unfoldable pub placed_in : List ℕ → List Placed
placed_in x = option_map_or (λ fault. []) (shape_fault x) (map placed (components x))

-- the components of the area with the range `r`; entries end at the last multiple of 64 bytes
abbrev pub components_in : List ℕ → Range → List Placed
components_in image r = placed_in (bytes_in (entry_range r) image)

-- the component is a bootblock, and the content ends at the offset `end`
abbrev pub is_bootblock_to : ℕ → Placed → Bool
is_bootblock_to end c = c.kind == bootblock_type && (c.start + c.len == end)

-- a master header
abbrev pub is_header : Placed → Bool
is_header c = c.kind == header_type

-- the end of the component's entry
abbrev pub entry_end : Placed → ℕ
entry_end c = round64 (c.start + c.len)

-- the end of the last component's entry, or 0 without a component
abbrev pub last_end : List Placed → ℕ
last_end components = fold (λ end c. entry_end c) 0 components
