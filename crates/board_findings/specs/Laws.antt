-- Boards whose structures satisfy their rules.
use Rattle.std.specs.Prelude.{◌≡◌, ◌⊎◌, ℕ, ◌+◌, ◌*◌, ◌≤◌, List, length, slice_range, take, true, false, Some}
use Rattle.std.specs.List.{find}
use lib.Chars.{codes}
use Rattle.flash_device.specs.Regions.{Range, bytes_in}
use Rattle.flash_format.specs.Flashmap.{is_area}
use Rattle.flash_format.specs.declared.flashmap.Area.{Area}
use Rattle.check_findings.specs.declared.areas.NumberedArea.{NumberedArea}
use Rattle.board_structures.specs.Descriptors as descriptors
use Rattle.board_structures.specs.Descriptors.{area_name_of, base_of, descriptor_in, limit_of}
use Rattle.board_structures.specs.Filling.{each_byte_is}
use Rattle.board_structures.specs.GoogleBinaryBlocks.{header_of}
use Rattle.board_structures.specs.FirmwareTables.{firmware_table_in, table_place}
use Rattle.board_structures.specs.Laws.{IsCoveredSlot, IsHeaderOfArea, IsUsableBlock, IsUsableTable}
use Rattle.board_structures.specs.MasterHeaders.{fields_of}
use Rattle.board_structures.specs.PartitionTables.{marker}
use Rattle.board_structures.specs.ResetVectors.{code_in}
use Rattle.board_structures.specs.SignedSlots.{keyblock_of}
use Rattle.board_structures.specs.declared.descriptor.Descriptor.TheVariants.{Described}
use Rattle.board_structures.specs.declared.descriptor.DescriptorRegion.{DescriptorRegion}
use Rattle.board_structures.specs.declared.descriptor.RegionTable.{RegionTable}
use Rattle.board_structures.specs.declared.firmware_table.FirmwareTable.TheVariants as firmware
use Rattle.board_findings.specs.declared.components.Placed.{Placed}
use Rattle.board_findings.specs.declared.finding.Slot.{Slot}
use Rattle.board_findings.specs.Components.{components_in, is_header}
use Rattle.board_findings.specs.BoardFindings.{Board, areas_in, block_name, board_range}
use Rattle.board_findings.specs.BoardFindings.{ends_with_bootblock, slot_body}

-- P holds for the bytes of the area named `name`, if the board has the area
abbrev pub InArea : Board → List ℕ → (List ℕ → Type 0) → Type 0
InArea b name P = (r : Range) → board_range b name ≡ Some r → P (bytes_in r b.image)

-- the signature of a flash descriptor, at 16 or at 0
abbrev pub HasDescriptor : List ℕ → Type 0
HasDescriptor x = (4096 ≤ length x) × ((slice_range x 16 20 ≡ descriptors.signature)
    ⊎ (slice_range x 0 4 ≡ descriptors.signature))

-- the marker of a partition table, at 16 or at 0
abbrev pub HasTable : List ℕ → Type 0
HasTable x = (slice_range x 16 20 ≡ marker) ⊎ (slice_range x 0 4 ≡ marker)

-- each area of a used region has the same offset and the same end as the region
abbrev pub AreRegions : List NumberedArea → RegionTable → Type 0
AreRegions areas table = (region : DescriptorRegion) (a : Area)
    → base_of region table ≤ limit_of region table
    → find (is_area (area_name_of region)) (areas_in areas) ≡ Some a
    → (a.offset ≡ 4096 * base_of region table)
    × (a.offset + a.size ≡ 4096 * (limit_of region table + 1))

-- code that is neither erased nor cleared
abbrev pub HasCode : List ℕ → Type 0
HasCode image = (16 ≤ length image) × (each_byte_is 0xff (code_in image) ≡ false)
    × (each_byte_is 0x00 (code_in image) ≡ false)

-- the image has no firmware interface table, or points to a table that a processor can use
abbrev pub HasUsableTable : List ℕ → Type 0
HasUsableTable image = (firmware_table_in image ≡ firmware.Absent)
    ⊎ (place : ℕ) × (count : ℕ) × (table_place image ≡ Some place) × IsUsableTable place count image

abbrev pub IsErased : List ℕ → Type 0
IsErased x = each_byte_is 0xff x ≡ true

abbrev pub IsCleared : List ℕ → Type 0
IsCleared x = each_byte_is 0x00 x ≡ true

-- each structure of the board is blank, or satisfies its rule
pub record HasSoundStructures (b : Board) : Type 0 where
  pub descriptor : InArea b (codes "SI_DESC") (λ x. IsErased x ⊎ HasDescriptor x)
  pub regions : InArea b (codes "SI_DESC") (λ x. (table : RegionTable)
      → descriptor_in x ≡ Described table → AreRegions b.areas table)
  pub partition_table : InArea b (codes "SI_ME") (λ x. IsErased x ⊎ HasTable x)
  pub reset_vector : (r : Range) → board_range b (codes "COREBOOT") ≡ Some r
      → r.start + r.size ≡ length b.image → ends_with_bootblock b r ≡ true → HasCode b.image
  pub firmware_table : (r : Range) → board_range b (codes "COREBOOT") ≡ Some r
      → r.start + r.size ≡ length b.image → ends_with_bootblock b r ≡ true
      → HasUsableTable b.image
  pub master_header : (r : Range) (c : Placed) → board_range b (codes "COREBOOT") ≡ Some r
      → ends_with_bootblock b r ≡ true
      → find is_header (components_in b.image r) ≡ Some c
      → let x = bytes_in r b.image in
      IsHeaderOfArea r.start c.start (fields_of (slice_range x c.start (c.start + 32))) x
  pub gbb : InArea b (codes "GBB") (λ x. IsErased x ⊎ IsUsableBlock (header_of (take 128 x)) x)
  pub slots : (slot : Slot) → InArea b (block_name slot) (λ x. IsErased x ⊎ (IsCleared x
      ⊎ IsCoveredSlot (slot_body b slot) (keyblock_of (take 112 x)) x))
