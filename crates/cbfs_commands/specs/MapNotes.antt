-- The notes on the flash map and the areas that a successful command may have changed: this
-- project's own.
use Rattle.std.specs.Prelude.{ℕ, ◌+◌, Bool, ◌&&◌, ◌||◌, not, List, [], Option, Some, None, nat_le, nat_lt, ◌==◌, if◌then◌else◌}
use Rattle.std.specs.Prelude.{Ok}
use Rattle.std.specs.List.{list_any}
use Rattle.std.specs.Str.{bytes_eq}
use Rattle.flash_format.specs.Flashmap.{area_end, fmap_head_bytes, is_area, map_len}
use Rattle.flash_format.specs.declared.flashmap.Area.{Area}
use Rattle.flash_device.specs.Regions.{Range}
use Rattle.flash_map.specs.Fmap.{areas_of, found_in}
use Rattle.flash_map.specs.declared.search.FoundMap.{FoundMap}
use Rattle.cbfs_requests.specs.Requests.{Request, on_region, write}
use Rattle.cbfs_commands.specs.Notes.{may_outdate, stands}
use Rattle.cbfs_commands.specs.Outcomes.{CommandResult}
use Rattle.cbfs_commands.specs.declared.mapped.Used.{Used}
use Rattle.cbfs_commands.specs.declared.map_notes.MapNote.{MapNote}
use Rattle.cbfs_commands.specs.declared.map_notes.MapNote.TheVariants as map_notes
use Rattle.cbfs_commands.specs.declared.region_notes.RegionNote.{RegionNote}
use Rattle.cbfs_commands.specs.declared.region_notes.RegionNote.TheVariants as region_notes

-- the region of a request, or the empty name for a request without a region
abbrev pub region_name : Request → List ℕ
region_name (on_region region task) = region
region_name request = []

-- ---- the region that `write` replaces

abbrev pub is_inside : Range → ℕ → Bool
is_inside range at = nat_le range.start at && nat_lt at (range.start + range.size)

-- The ranges have a common byte: the first byte of either range lies in the other range.
abbrev pub share_a_byte : Range → Range → Bool
share_a_byte r s = (nat_lt 0 r.size && is_inside s r.start)
    || (nat_lt 0 s.size && is_inside r s.start)

-- the head and the table of areas
abbrev pub range_of_map : FoundMap → Range
range_of_map map = record { start = map.at; size = map_len map.head }

-- an area with another name, which is not empty, lies in the range
abbrev pub is_other_in : Range → List ℕ → Area → Bool
is_other_in range name area = not (is_area name area) && (nat_lt 0 area.size
    && (nat_le range.start area.offset && nat_le (area_end area) (range.start + range.size)))

-- the image still has the map, and an area of the map with another name lies in the region
abbrev pub contains_others : Used → List ℕ → List ℕ → Bool
contains_others used name image = stands used.map image
    && list_any (is_other_in used.region name) (areas_of image used.map)

-- The note on a replaced region, by the flash map before the command. A region with bytes of the
-- map mostly contains the map's area too, and only the first note is printed in this case.
abbrev pub replaced_region : List ℕ → List ℕ → Used → Option RegionNote
replaced_region image name used = if share_a_byte used.region (range_of_map used.map)
    then Some region_notes.HoldsMap
    else (if contains_others used name image then Some region_notes.ContainsAreas else None)

-- the note after a successful `write`
abbrev pub region_note : Request → CommandResult → Option Used → List ℕ → Option RegionNote
region_note (on_region name write) (Ok done) (Some used) image = replaced_region image name used
region_note request answer used image = None

-- ---- the flash map that the next command finds

-- at the same offset, with the same head
abbrev pub is_same_map : FoundMap → FoundMap → Bool
is_same_map map other =
    (map.at == other.at) && bytes_eq (fmap_head_bytes map.head) (fmap_head_bytes other.head)

-- the result of the next command's search, if different from the used map
abbrev pub map_change : FoundMap → Option FoundMap → Option MapNote
map_change used None = Some map_notes.NoMap
map_change used (Some found) =
    if is_same_map used found then None else Some (map_notes.AnotherMap found.at)

-- the note after a successful `add`, `remove` or `write`
abbrev pub map_note : Request → CommandResult → Option Used → List ℕ → Option MapNote
map_note request answer (Some used) image = if may_outdate request answer
    then map_change used.map (found_in image) else None
map_note request answer None image = None
