-- Searches for the flash map of an image, and the limits of their device calls.
use Rattle.std.specs.Prelude.{◌≡◌, ℕ, ◌+◌, ◌/◌, length, List, Option, Some, None, drop, if◌then◌else◌}
use Rattle.std.specs.List.{find}
use Rattle.std.specs.Option.{option_map}
use Rattle.flash_format.specs.declared.flashmap.FmapHead.{FmapHead}
use Rattle.flash_format.specs.declared.flashmap.Area.{Area}
use Rattle.flash_format.specs.Flashmap.{is_map, map_from, map_len, fmap_head_len, fmap_head_of}
use Rattle.flash_format.specs.Flashmap.{area_len, areas_from, is_area}
pub use Rattle.flash_format.specs.Laws.{NoMapBelow}
use Rattle.flash_device.specs.Device.{Device}
use Rattle.flash_map.specs.declared.search.FoundMap.{FoundMap}

-- the offset after the areas
abbrev pub map_end : FoundMap → ℕ
map_end map = map.at + map_len map.head

-- the maximum number of reads of a search for the map, and of the map and its areas
abbrev pub search_reads : Device → ℕ
search_reads device = length device.content / 2 + 8

abbrev pub map_reads : Device → ℕ
map_reads device = search_reads device + length device.content / area_len

-- the head of a valid flash map at the beginning of the bytes
abbrev pub map_head : List ℕ → Option FmapHead
map_head x = if is_map x then Some (fmap_head_of x) else None

-- the valid flash map with the lowest offset, from an offset on
abbrev pub found_from : ℕ → List ℕ → Option FoundMap
found_from place image = option_map
    (λ q. record { at = q; head = fmap_head_of (drop q image) }) (map_from place (drop place image))

abbrev pub found_in : List ℕ → Option FoundMap
found_in image = found_from 0 image

abbrev pub areas_of : List ℕ → FoundMap → List Area
areas_of image map = areas_from map.head.nareas (drop (map.at + fmap_head_len) image)

-- the first area of the list with the name
abbrev pub first_area : List Area → List ℕ → Option Area
first_area areas name = find (is_area name) areas

-- a search of the image finds a flash map with this head and with these areas at the offset q
pub record FindsMap (h : FmapHead) (areas : List Area) (image : List ℕ) (q : ℕ) : Type 0 where
  pub found : found_in image ≡ Some (record { at = q; head = h })
  pub all : areas_of image (record { at = q; head = h }) ≡ areas
