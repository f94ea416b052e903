-- Structures that an update must not lose: the new image needs each structure of the old image.
use Rattle.std.specs.Prelude.{Bool, true, false, ◌&&◌, not, List, [], ◌∷◌, ◌++◌, filter, is_some, map}
use Rattle.std.specs.List.{list_any}
use Rattle.board_structures.specs.Descriptors.{range_of}
use Rattle.board_structures.specs.declared.descriptor.Descriptor.TheVariants as descriptors
use Rattle.board_structures.specs.declared.firmware_table.FirmwareTable.TheVariants as firmware
use Rattle.board_structures.specs.declared.gbb.Gbb.TheVariants as blocks
use Rattle.board_structures.specs.declared.partition_table.PartitionTable.TheVariants as tables
use Rattle.board_structures.specs.declared.signed_slot.SignedSlot.{SignedSlot}
use Rattle.board_structures.specs.declared.signed_slot.SignedSlot.TheVariants as signed
use Rattle.board_findings.specs.BoardFindings.{all_regions}
use Rattle.board_findings.specs.declared.finding.BoardFinding.{BoardFinding}
use Rattle.board_findings.specs.declared.finding.BoardFinding.TheVariants as found
use Rattle.board_findings.specs.declared.finding.Slot.{Slot}
use Rattle.board_findings.specs.declared.finding.Slot.TheVariants as slots
use Rattle.board_findings.specs.declared.structure.Structure.{Structure}
use Rattle.board_findings.specs.declared.structure.Structure.TheVariants as structures

-- ---- the structures of an image, by the findings about its board

abbrev pub is_slot : Slot → Slot → Bool
is_slot slots.A slots.A = true
is_slot slots.B slots.B = true
is_slot _ _ = false

abbrev pub is_signed : SignedSlot → Bool
is_signed signed.Blank = false
is_signed _ = true

-- The finding shows that the image has the structure: the state is neither blank nor absent, and
-- may be broken. A table of regions shows each used region, and a finding about the reset vector
-- shows a bootblock of x86.
abbrev pub shows : Structure → BoardFinding → Bool
shows structures.FlashDescriptor (found.Descriptor descriptors.Blank) = false
shows structures.FlashDescriptor (found.Descriptor state) = true
shows (structures.Region region) (found.Descriptor (descriptors.Described table)) =
    is_some (range_of region table)
shows structures.PartitionTable (found.PartitionTable tables.Blank) = false
shows structures.PartitionTable (found.PartitionTable state) = true
shows structures.Bootblock (found.ResetVector state) = true
shows structures.FirmwareTable (found.FirmwareTable firmware.Absent) = false
shows structures.FirmwareTable (found.FirmwareTable state) = true
shows structures.MasterHeader (found.MasterHeader header) = true
shows structures.Gbb (found.Gbb blocks.Blank) = false
shows structures.Gbb (found.Gbb state) = true
shows (structures.Slot slot) (found.Slot finding) =
    is_slot slot finding.slot && is_signed finding.state
shows _ _ = false

abbrev pub has : Structure → List BoardFinding → Bool
has structure findings = list_any (shows structure) findings

-- ---- the structures that are lost

abbrev pub is_described : BoardFinding → Bool
is_described (found.Descriptor (descriptors.Described table)) = true
is_described _ = false

-- the flash descriptor has a table of regions
abbrev pub has_table : List BoardFinding → Bool
has_table findings = list_any is_described findings

-- a region is compared only if the new image has a table of regions
abbrev pub is_asked_in : Structure → List BoardFinding → Bool
is_asked_in (structures.Region region) findings = has_table findings
is_asked_in _ findings = true

-- the old image has the structure, and the new image has not
abbrev pub is_lost : List BoardFinding → List BoardFinding → Structure → Bool
is_lost old new structure =
    has structure old && not (has structure new) && is_asked_in structure new

-- all structures, in the order of their findings; the regions follow the flash descriptor
abbrev pub all_structures : List Structure
all_structures = (structures.FlashDescriptor ∷ map structures.Region all_regions)
    ++ structures.PartitionTable ∷ structures.Bootblock ∷ structures.FirmwareTable
    ∷ structures.MasterHeader ∷ structures.Gbb ∷ structures.Slot slots.A
    ∷ structures.Slot slots.B ∷ []

unfoldable pub lost_structures : List BoardFinding → List BoardFinding → List Structure
lost_structures old new = filter (is_lost old new) all_structures
