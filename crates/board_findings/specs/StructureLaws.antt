-- The condition under which an update loses a structure.
use Rattle.std.specs.Prelude.{◌≢◌, ◌≤◌, Contains, List, [], ◌∷◌}
use Rattle.board_structures.specs.Descriptors.{base_of, limit_of}
use Rattle.board_structures.specs.declared.descriptor.Descriptor.{Descriptor}
use Rattle.board_structures.specs.declared.descriptor.Descriptor.TheVariants as descriptors
use Rattle.board_structures.specs.declared.descriptor.RegionTable.{RegionTable}
use Rattle.board_structures.specs.declared.firmware_table.FirmwareTable.{FirmwareTable}
use Rattle.board_structures.specs.declared.firmware_table.FirmwareTable.TheVariants as firmware
use Rattle.board_structures.specs.declared.gbb.Gbb.{Gbb}
use Rattle.board_structures.specs.declared.gbb.Gbb.TheVariants as blocks
use Rattle.board_structures.specs.declared.partition_table.PartitionTable.{PartitionTable}
use Rattle.board_structures.specs.declared.partition_table.PartitionTable.TheVariants as tables
use Rattle.board_structures.specs.declared.reset_vector.ResetVector.{ResetVector}
use Rattle.board_structures.specs.declared.signed_slot.SignedSlot.{SignedSlot}
use Rattle.board_structures.specs.declared.signed_slot.SignedSlot.TheVariants as signed
use Rattle.board_findings.specs.declared.finding.BoardFinding.{BoardFinding}
use Rattle.board_findings.specs.declared.finding.BoardFinding.TheVariants as found
use Rattle.board_findings.specs.declared.finding.HeaderFinding.{HeaderFinding}
use Rattle.board_findings.specs.declared.structure.Structure.{Structure}
use Rattle.board_findings.specs.declared.structure.Structure.TheVariants as structures

-- the findings contain a flash descriptor with the table of regions `table`
abbrev pub HasTableOf : List BoardFinding → RegionTable → Type 0
HasTableOf findings table = Contains findings (found.Descriptor (descriptors.Described table))

-- the findings contain a finding about the structure, with a state that is neither blank nor absent
abbrev pub Has : Structure → List BoardFinding → Type 0
Has structures.FlashDescriptor findings = (state : Descriptor)
    × Contains findings (found.Descriptor state) × (state ≢ descriptors.Blank)
Has (structures.Region region) findings = (table : RegionTable)
    × HasTableOf findings table × (base_of region table ≤ limit_of region table)
Has structures.PartitionTable findings = (state : PartitionTable)
    × Contains findings (found.PartitionTable state) × (state ≢ tables.Blank)
Has structures.Bootblock findings = (state : ResetVector)
    × Contains findings (found.ResetVector state)
Has structures.FirmwareTable findings = (state : FirmwareTable)
    × Contains findings (found.FirmwareTable state) × (state ≢ firmware.Absent)
Has structures.MasterHeader findings = (header : HeaderFinding)
    × Contains findings (found.MasterHeader header)
Has structures.Gbb findings = (state : Gbb)
    × Contains findings (found.Gbb state) × (state ≢ blocks.Blank)
Has (structures.Slot slot) findings = (state : SignedSlot)
    × Contains findings (found.Slot (record { slot = slot; state = state }))
    × (state ≢ signed.Blank)

-- a region is compared only if the flash descriptor of the new image has a table of regions
abbrev pub IsAskedIn : Structure → List BoardFinding → Type 0
IsAskedIn (structures.Region region) findings = (table : RegionTable) × HasTableOf findings table
IsAskedIn _ findings = Unit {0}

-- the old image has the structure, and the new image has not
pub record IsLost (old new : List BoardFinding) (structure : Structure) : Type 0 where
  pub was_there : Has structure old
  pub is_gone : Has structure new → ⊥
  pub is_asked : IsAskedIn structure new

-- ---- an example: the flash descriptor is erased, and the GBB is not

abbrev pub before_erasure : List BoardFinding
before_erasure = found.Descriptor descriptors.NoSignature ∷ found.Gbb (blocks.Sound 0) ∷ []

abbrev pub after_erasure : List BoardFinding
after_erasure = found.Descriptor descriptors.Blank ∷ found.Gbb (blocks.Sound 0) ∷ []
