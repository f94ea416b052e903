-- Findings about the structures besides CBFS that a board boots from. This project defines the
-- order of the findings.
use Rattle.std.specs.Prelude.{ℕ, ◌+◌, ◌*◌, ◌/◌, Bool, ◌&&◌, List, [], ◌∷◌, ◌++◌, Option, length, map, ◌==◌, if◌then◌else◌}
use Rattle.std.specs.List.{find, flat_map, list_any}
use Rattle.std.specs.Option.{option_map, option_map_or, option_to_list}
use lib.Chars.{codes}
use Rattle.flash_device.specs.Regions.{Range, bytes_in}
use Rattle.flash_format.specs.declared.flashmap.Area.{Area}
use Rattle.check_findings.specs.Lists.{only_if}
use Rattle.check_findings.specs.declared.areas.NumberedArea.{NumberedArea}
use Rattle.board_structures.specs.Descriptors.{descriptor_in, difference_in}
use Rattle.board_structures.specs.FirmwareTables.{firmware_table_in, table_reads}
use Rattle.board_structures.specs.GoogleBinaryBlocks.{gbb_in}
use Rattle.board_structures.specs.MasterHeaders.{master_header_in}
use Rattle.board_structures.specs.PartitionTables.{partition_table_in}
use Rattle.board_structures.specs.ResetVectors.{reset_vector_in}
use Rattle.board_structures.specs.SignedSlots.{signed_slot_in}
use Rattle.board_structures.specs.declared.descriptor.Descriptor.{Descriptor}
use Rattle.board_structures.specs.declared.descriptor.Descriptor.TheVariants.{Described}
use Rattle.board_structures.specs.declared.descriptor.DescriptorRegion.{DescriptorRegion}
use Rattle.board_structures.specs.declared.descriptor.DescriptorRegion.TheVariants as regions
use Rattle.board_structures.specs.declared.descriptor.RegionTable.{RegionTable}
use Rattle.board_structures.specs.declared.firmware_table.FirmwareTable.{FirmwareTable}
use Rattle.board_structures.specs.declared.firmware_table.FirmwareTable.TheVariants as tables
use Rattle.board_structures.specs.declared.signed_slot.SlotBody.{SlotBody}
use Rattle.board_findings.specs.declared.finding.BoardFinding.{BoardFinding}
use Rattle.board_findings.specs.declared.finding.BoardFinding.TheVariants as found
use Rattle.board_findings.specs.declared.finding.Slot.{Slot}
use Rattle.board_findings.specs.declared.finding.Slot.TheVariants as slots
use Rattle.board_findings.specs.Components.{components_in, is_bootblock_to, is_header, last_end, range_named}

-- an image, and the areas of its flash map
pub record Board : Type 0 where
  pub image : List ℕ
  pub areas : List NumberedArea

-- ---- areas of the board

-- the range of the first area named `name`, if the area lies inside the image
abbrev pub board_range : Board → List ℕ → Option Range
board_range b name = range_named (length b.image) b.areas name

-- the findings from the bytes of the area named `name`; an image without the area has no finding
abbrev pub in_area : Board → List ℕ → (List ℕ → List BoardFinding) → List BoardFinding
in_area b name part = option_map_or (λ r. part (bytes_in r b.image)) (board_range b name) []

-- ---- the files of Intel

-- the regions that have an area in a flash map, in the order of the descriptor's table
abbrev pub all_regions : List DescriptorRegion
all_regions = regions.Descriptor ∷ regions.Bios ∷ regions.Me ∷ regions.Gbe
    ∷ regions.PlatformData ∷ regions.Ec ∷ []

abbrev pub areas_in : List NumberedArea → List Area
areas_in areas = map (λ a. a.area) areas

-- a finding for each region of `regions` that differs from the area with the region's name
abbrev pub differences_of : List NumberedArea → RegionTable → List DescriptorRegion
    → List BoardFinding
differences_of areas table regions = flat_map (λ region. option_to_list
    (option_map found.Region (difference_in region table (areas_in areas)))) regions

-- a finding for each region of the descriptor that differs from the area with the region's name
abbrev pub differences : List NumberedArea → Descriptor → List BoardFinding
differences areas (Described table) = differences_of areas table all_regions
differences areas _ = []

-- the findings about the flash descriptor, and about areas that differ from the regions
abbrev pub descriptor_part : Board → List BoardFinding
descriptor_part b = in_area b (codes "SI_DESC")
    (λ x. found.Descriptor (descriptor_in x) ∷ differences b.areas (descriptor_in x))

abbrev pub partition_table_part : Board → List BoardFinding
partition_table_part b = in_area b (codes "SI_ME")
    (λ x. found.PartitionTable (partition_table_in x) ∷ [])

-- ---- coreboot

-- the findings from the range of COREBOOT; an image without the area has no finding
abbrev pub in_coreboot : Board → (Range → List BoardFinding) → List BoardFinding
in_coreboot b part = option_map_or part (board_range b (codes "COREBOOT")) []

-- a bootblock ends with the area COREBOOT, which has the range `r`
abbrev pub ends_with_bootblock : Board → Range → Bool
ends_with_bootblock b r = list_any (is_bootblock_to r.size) (components_in b.image r)

-- a bootblock of x86 ends both with COREBOOT, which has the range `r`, and with the image
abbrev pub ends_as_x86 : Board → Range → Bool
ends_as_x86 b r = r.start + r.size == length b.image && ends_with_bootblock b r

abbrev pub reset_vector_part : Board → List BoardFinding
reset_vector_part b =
    in_coreboot b (λ r. only_if (ends_as_x86 b r) (found.ResetVector (reset_vector_in b.image)))

-- an image without a table has no finding
abbrev pub table_findings : FirmwareTable → List BoardFinding
table_findings tables.Absent = []
table_findings (tables.Broken fault) = found.FirmwareTable (tables.Broken fault) ∷ []
table_findings (tables.Sound count) = found.FirmwareTable (tables.Sound count) ∷ []

-- the finding about Intel's firmware interface table, under a bootblock of x86
abbrev pub firmware_table_part : Board → List BoardFinding
firmware_table_part b = in_coreboot b
    (λ r. if ends_as_x86 b r then table_findings (firmware_table_in b.image) else [])

-- the finding about the first master header in COREBOOT
abbrev pub master_header_part : Board → List BoardFinding
master_header_part b = in_coreboot b (λ r. option_map_or (λ c. found.MasterHeader (record {
  state = master_header_in r.start c.start (bytes_in r b.image);
  ends_with_bootblock = ends_with_bootblock b r;
}) ∷ []) (find is_header (components_in b.image r)) [])

-- ---- vboot

abbrev pub gbb_part : Board → List BoardFinding
gbb_part b = in_area b (codes "GBB") (λ x. found.Gbb (gbb_in x) ∷ [])

-- the name of the area with the signatures of a slot; `body_name` is the name of the signed area
abbrev pub block_name : Slot → List ℕ
block_name slots.A = codes "VBLOCK_A"
block_name slots.B = codes "VBLOCK_B"

abbrev pub body_name : Slot → List ℕ
body_name slots.A = codes "FW_MAIN_A"
body_name slots.B = codes "FW_MAIN_B"

-- the body of a slot without the signed area has no bytes
abbrev pub slot_body : Board → Slot → SlotBody
slot_body b slot = option_map_or
    (λ r. record { end = last_end (components_in b.image r); size = r.size })
    (board_range b (body_name slot)) (record { end = 0; size = 0 })

abbrev pub slot_part : Slot → Board → List BoardFinding
slot_part slot b = in_area b (block_name slot) (λ x. found.Slot (record {
  slot = slot;
  state = signed_slot_in (slot_body b slot) x;
}) ∷ [])

-- ---- the board

-- one part for each structure
unfoldable pub board_findings : Board → List BoardFinding
board_findings b = descriptor_part b
    ++ partition_table_part b
    ++ reset_vector_part b
    ++ firmware_table_part b
    ++ master_header_part b
    ++ gbb_part b
    ++ slot_part slots.A b
    ++ slot_part slots.B b

-- the largest number of reads of a check of n bytes
abbrev pub board_reads : ℕ → ℕ
board_reads n = table_reads n + 3 * (n / 60) + 7 * (n / 4096) + 30
