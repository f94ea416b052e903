-- The flash map, the region COREBOOT, and the range that has the anchor.
use Rattle.std.specs.Prelude.{ℕ, ◌+◌, ◌/◌, Bool, true, false, ◌||◌, ◌&&◌, not, List, length, Some, Result, Ok, Err, ◌==◌, nat_lt, if◌then◌else◌}
use Rattle.std.specs.List.{find}
use Rattle.std.specs.Option.{option_map_or}
use Rattle.std.specs.Result.{result_map_both}
use lib.Chars.{codes}
use Rattle.flash_format.specs.declared.flashmap.Area.{Area}
use Rattle.flash_format.specs.Head.{head_of}
use Rattle.flash_format.specs.Flashmap.{is_area, map_len}
use Rattle.flash_format.specs.Components.{Component}
use Rattle.flash_device.specs.Device.{Device}
use Rattle.flash_device.specs.Regions.{Range, bytes_in}
use Rattle.flash_map.specs.Fmap.{found_in, areas_of, map_reads}
use Rattle.flash_map.specs.Regions.{region_by_area}
use Rattle.flash_map.specs.declared.search.FoundMap.{FoundMap}
use Rattle.cbfs_walk.specs.Search.{component_in}
use Rattle.cbfs_anchor.specs.declared.place.AnchorPlace.{AnchorPlace}
use Rattle.cbfs_anchor.specs.declared.fault.SealFault.{SealFault}
use Rattle.cbfs_anchor.specs.declared.fault.SealFault.TheVariants as faults
use Rattle.cbfs_anchor.specs.Faults.{and_then, store_fault, walk_fault}
use Rattle.cbfs_anchor.specs.Metadata.{bootblock_type}

-- the first area with the name
abbrev pub area_range : List ℕ → FoundMap → List ℕ → Result Range SealFault
area_range image map name = result_map_both (λ range. range) store_fault
    (region_by_area (length image) (find (is_area name) (areas_of image map)))

-- the content of a component of a region
abbrev pub content_range : Range → Component → Range
content_range region c = let head = head_of c.bytes in
    record { start = region.start + c.at + head.offset; size = head.len }

abbrev pub content_place : Range → Range → Component → Result AnchorPlace SealFault
content_place map coreboot c = if c.kind == bootblock_type then Ok (record {
  map = map;
  coreboot = coreboot;
  anchor = content_range coreboot c;
  in_component = true;
})
    else Err faults.NoAnchor

-- without an area BOOTBLOCK: the content of the first component named `bootblock`, if it has the
-- type
abbrev pub component_place : Range → Range → List ℕ → Result AnchorPlace SealFault
component_place map coreboot x = and_then
    (result_map_both (λ found. found) walk_fault (component_in x (codes "bootblock")))
    (λ found. option_map_or (content_place map coreboot) found (Err faults.NoAnchor))

abbrev pub area_place : Range → Range → Range → AnchorPlace
area_place map coreboot bootblock =
    record { map = map; coreboot = coreboot; anchor = bootblock; in_component = false }

abbrev pub map_range : FoundMap → Range
map_range map = record { start = map.at; size = map_len map.head }

-- after COREBOOT is found
abbrev pub place_by : List ℕ → FoundMap → Range → Result AnchorPlace SealFault
place_by image map coreboot = option_map_or
    (λ (area : Area). result_map_both (area_place (map_range map) coreboot) store_fault
    (region_by_area (length image) (Some area)))
    (find (is_area (codes "BOOTBLOCK")) (areas_of image map))
    (component_place (map_range map) coreboot (bytes_in coreboot image))

-- after the map is found
abbrev pub place_with : List ℕ → FoundMap → Result AnchorPlace SealFault
place_with image map = and_then (area_range image map (codes "COREBOOT")) (place_by image map)

unfoldable pub place_in : List ℕ → Result AnchorPlace SealFault
place_in image = option_map_or (place_with image) (found_in image) (Err faults.NoFmap)

-- the maximum number of device calls
abbrev pub place_reads : Device → ℕ
place_reads device =
    map_reads device + length device.content / 42 + length device.content / 16 + 2

-- a byte is in both ranges
abbrev pub share_bytes : Range → Range → Bool
share_bytes r s = nat_lt r.start (s.start + s.size) && nat_lt s.start (r.start + r.size)

-- The digests lie in the flash map, or in COREBOOT outside the content of the component. To write
-- them would change what they are computed from.
abbrev pub is_misplaced : AnchorPlace → Range → Bool
is_misplaced place digests = share_bytes digests place.map
    || (not place.in_component && share_bytes digests place.coreboot)
