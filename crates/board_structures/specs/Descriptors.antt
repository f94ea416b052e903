-- Intel's flash descriptor, in the area SI_DESC: the first 4 KiB of the flash. It divides the flash
-- into regions, and coreboot's flash map has an area for each of them.
use Rattle.std.specs.Prelude.{ℕ, ◌+◌, ◌-◌, ◌*◌, ◌%◌, Bool, true, false, List, [], ◌∷◌, length, slice_index, slice_range, Option, Some, None, nat_lt, ◌==◌, ◌&&◌, if◌then◌else◌}
use Rattle.std.specs.List.{find}
use Rattle.std.specs.Option.{option_and_then, option_map_or}
use lib.Chars.{codes}
use Rattle.flash_format.specs.Flashmap.{is_area, le}
use Rattle.flash_format.specs.declared.flashmap.Area.{Area}
use Rattle.board_structures.specs.Filling.{each_byte_is, first_page, page_len}
use Rattle.board_structures.specs.Magics.{has_magic_at}
use Rattle.board_structures.specs.declared.descriptor.Descriptor.{Descriptor}
use Rattle.board_structures.specs.declared.descriptor.Descriptor.TheVariants as states
use Rattle.board_structures.specs.declared.descriptor.DescriptorRegion.{DescriptorRegion}
use Rattle.board_structures.specs.declared.descriptor.DescriptorRegion.TheVariants as regions
use Rattle.board_structures.specs.declared.descriptor.RegionTable.{RegionTable}
use Rattle.board_structures.specs.declared.descriptor.FlashRange.{FlashRange}
use Rattle.board_structures.specs.declared.descriptor.AreaDifference.{AreaDifference}

-- ---- the layout
--
-- | offset            | bytes | field                                                         |
-- | ----------------- | ----- | ------------------------------------------------------------- |
-- | s = 0x10 or 0     | 4     | the signature 0x0ff0a55a, little-endian                       |
-- | s + 6             | 1     | the offset of the table of regions, in units of 16 bytes      |
-- | table + 4 r       | 2     | bits 0 to 14: the first unit of 4 KiB of the region number r  |
-- | table + 4 r + 2   | 2     | bits 0 to 14: its last unit                                   |

abbrev pub signature : List ℕ
signature = 0x5a ∷ 0xa5 ∷ 0xf0 ∷ 0x0f ∷ []

-- newer chipsets have 16 bytes before the signature
abbrev pub signature_place : List ℕ → Option ℕ
signature_place x = if has_magic_at 16 signature x then Some 16
    else (if has_magic_at 0 signature x then Some 0 else None)

abbrev pub table_place : ℕ → List ℕ → ℕ
table_place signature_at x = 16 * slice_index x (signature_at + 6)

-- nine entries, of the regions 0 to 8
abbrev pub table_len : ℕ
table_len = 36

-- ---- regions

-- the number of a region in the table
abbrev pub number_of : DescriptorRegion → ℕ
number_of regions.Descriptor = 0
number_of regions.Bios = 1
number_of regions.Me = 2
number_of regions.Gbe = 3
number_of regions.PlatformData = 4
number_of regions.Ec = 8

-- the area of a region in the flash map, as ifdtool names it
abbrev pub area_name_of : DescriptorRegion → List ℕ
area_name_of regions.Descriptor = codes "SI_DESC"
area_name_of regions.Bios = codes "SI_BIOS"
area_name_of regions.Me = codes "SI_ME"
area_name_of regions.Gbe = codes "SI_GBE"
area_name_of regions.PlatformData = codes "SI_PDR"
area_name_of regions.Ec = codes "SI_EC"

-- the first and the last unit of 4 KiB
abbrev pub base_of : DescriptorRegion → RegionTable → ℕ
base_of region table = le 2 (4 * number_of region) table.entries % 0x8000

abbrev pub limit_of : DescriptorRegion → RegionTable → ℕ
limit_of region table = le 2 (4 * number_of region + 2) table.entries % 0x8000

-- a region whose last unit is below its first one is unused
unfoldable pub range_of : DescriptorRegion → RegionTable → Option FlashRange
range_of region table = let base = base_of region table in let limit = limit_of region table in
    if nat_lt limit base then None
    else Some (record { offset = 4096 * base; size = 4096 * (limit - base + 1) })

-- ---- the state of the descriptor

-- of the first page of an area with content
unfoldable pub state_of_page : List ℕ → Descriptor
state_of_page x = if nat_lt (length x) page_len then states.CutOff else option_map_or
    (λ at. let table = table_place at x in
    if nat_lt page_len (table + table_len) then states.TableOutside else
    states.Described (record { entries = slice_range x table (table + table_len) }))
    (signature_place x) states.NoSignature

unfoldable pub descriptor_in : List ℕ → Descriptor
descriptor_in x = if each_byte_is 0xff x then states.Blank else state_of_page (first_page x)

-- the board doesn't boot; a blank descriptor is in images that are built without the files of Intel
abbrev pub is_bad : Descriptor → Bool
is_bad states.Blank = false
is_bad states.CutOff = true
is_bad states.NoSignature = true
is_bad states.TableOutside = true
is_bad (states.Described table) = false

-- ---- differences between the descriptor and the flash map

abbrev pub area_range : Area → FlashRange
area_range a = record { offset = a.offset; size = a.size }

abbrev pub is_same_range : FlashRange → FlashRange → Bool
is_same_range r s = r.offset == s.offset && r.size == s.size

abbrev pub difference_of : DescriptorRegion → FlashRange → FlashRange → Option AreaDifference
difference_of region described area = if is_same_range described area then None
    else Some (record { region = region; described = described; area = area })

-- an unused region, and a region without an area in the map, have none
abbrev pub difference_in : DescriptorRegion → RegionTable → List Area → Option AreaDifference
difference_in region table areas = option_and_then (λ described. option_and_then
    (λ a. difference_of region described (area_range a))
    (find (is_area (area_name_of region)) areas)) (range_of region table)
