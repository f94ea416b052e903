-- Bad findings: the board doesn't boot, or the firmware refuses a slot. Others are remarks.
use Rattle.std.specs.Prelude.{Bool, true}
use Rattle.board_structures.specs.Descriptors as descriptors
use Rattle.board_structures.specs.FirmwareTables as firmware
use Rattle.board_structures.specs.GoogleBinaryBlocks as blocks
use Rattle.board_structures.specs.MasterHeaders as headers
use Rattle.board_structures.specs.PartitionTables as tables
use Rattle.board_structures.specs.ResetVectors as vectors
use Rattle.board_structures.specs.SignedSlots as signed
use Rattle.board_findings.specs.declared.finding.BoardFinding.{BoardFinding}
use Rattle.board_findings.specs.declared.finding.BoardFinding.TheVariants as found

abbrev pub is_bad : BoardFinding → Bool
is_bad (found.Descriptor state) = descriptors.is_bad state
is_bad (found.Region difference) = true
is_bad (found.PartitionTable state) = tables.is_bad state
is_bad (found.ResetVector state) = vectors.is_bad state
is_bad (found.FirmwareTable state) = firmware.is_bad state
is_bad (found.MasterHeader h) = headers.is_bad h.ends_with_bootblock h.state
is_bad (found.Gbb state) = blocks.is_bad state
is_bad (found.Slot s) = signed.is_bad s.state
