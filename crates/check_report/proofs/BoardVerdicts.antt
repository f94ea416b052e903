-- A row of a board's structure is bad if its finding is bad.
use Rattle.std.proofs.Common.{◌≡◌, zero, suc, Bool, true, false, List, [], ◌∷◌, map, refl}
use Rattle.std.specs.List.{list_any}
use Rattle.board_structures.specs.declared.descriptor.Descriptor.{Descriptor}
use Rattle.board_structures.specs.declared.descriptor.Descriptor.TheVariants as descriptors
use Rattle.board_structures.specs.declared.firmware_table.FirmwareTable.{FirmwareTable}
use Rattle.board_structures.specs.declared.firmware_table.FirmwareTable.TheVariants as firmware
use Rattle.board_structures.specs.declared.firmware_table.TableFault.TheVariants as table_faults
use Rattle.board_structures.specs.declared.gbb.Gbb.{Gbb}
use Rattle.board_structures.specs.declared.gbb.Gbb.TheVariants as blocks
use Rattle.board_structures.specs.declared.master_header.MasterHeader.{MasterHeader}
use Rattle.board_structures.specs.declared.master_header.MasterHeader.TheVariants as headers
use Rattle.board_structures.specs.declared.partition_table.PartitionTable.{PartitionTable}
use Rattle.board_structures.specs.declared.partition_table.PartitionTable.TheVariants as tables
use Rattle.board_structures.specs.declared.reset_vector.ResetVector.{ResetVector}
use Rattle.board_structures.specs.declared.reset_vector.ResetVector.TheVariants as vectors
use Rattle.board_structures.specs.declared.signed_slot.SignedSlot.{SignedSlot}
use Rattle.board_structures.specs.declared.signed_slot.SignedSlot.TheVariants as slots
use Rattle.board_structures.specs.Descriptors as of_descriptor
use Rattle.board_structures.specs.FirmwareTables as of_firmware
use Rattle.board_structures.specs.GoogleBinaryBlocks as of_block
use Rattle.board_structures.specs.MasterHeaders as of_header
use Rattle.board_structures.specs.PartitionTables as of_table
use Rattle.board_structures.specs.ResetVectors as of_vector
use Rattle.board_structures.specs.SignedSlots as of_slot
use Rattle.board_findings.specs.declared.finding.BoardFinding.{BoardFinding}
use Rattle.board_findings.specs.declared.finding.BoardFinding.TheVariants as found
use Rattle.board_findings.specs.Verdicts.{is_bad}
use Rattle.check_report.specs.declared.rows.row.Verdict.TheVariants.{Bad}
use Rattle.check_report.specs.Rows.{has_verdict}
use Rattle.check_report.specs.BoardRows.{block_row, board_row, descriptor_row, firmware_row, header_state_row, slot_row, table_row, vector_row}

bad_descriptor : (state : Descriptor) → has_verdict Bad (descriptor_row state) ≡ of_descriptor.is_bad state
bad_descriptor descriptors.Blank = refl
bad_descriptor descriptors.CutOff = refl
bad_descriptor descriptors.NoSignature = refl
bad_descriptor descriptors.TableOutside = refl
bad_descriptor (descriptors.Described table) = refl

bad_table : (state : PartitionTable) → has_verdict Bad (table_row state) ≡ of_table.is_bad state
bad_table tables.Blank = refl
bad_table tables.Missing = refl
bad_table (tables.Present at) = refl

bad_vector : (state : ResetVector) → has_verdict Bad (vector_row state) ≡ of_vector.is_bad state
bad_vector vectors.CutOff = refl
bad_vector vectors.Erased = refl
bad_vector vectors.Cleared = refl
bad_vector vectors.Code = refl

bad_firmware : (state : FirmwareTable) → has_verdict Bad (firmware_row state) ≡ of_firmware.is_bad state
bad_firmware firmware.Absent = refl
bad_firmware (firmware.Broken table_faults.Empty) = refl
bad_firmware (firmware.Broken table_faults.CutOff) = refl
bad_firmware (firmware.Broken (table_faults.Entry entry)) = refl
bad_firmware (firmware.Sound count) = refl

bad_header : (ends : Bool) (s state : MasterHeader) → has_verdict Bad (header_state_row (record { state = s; ends_with_bootblock = ends }) state) ≡ of_header.is_bad ends state
bad_header true s (headers.Broken fault) = refl
bad_header false s (headers.Broken fault) = refl
bad_header ends s headers.Sound = refl

bad_block : (state : Gbb) → has_verdict Bad (block_row state) ≡ of_block.is_bad state
bad_block blocks.Blank = refl
bad_block (blocks.Broken fault) = refl
bad_block (blocks.Sound zero) = refl
bad_block (blocks.Sound (suc n)) = refl

bad_slot : (state : SignedSlot) → has_verdict Bad (slot_row state) ≡ of_slot.is_bad state
bad_slot slots.Blank = refl
bad_slot (slots.Broken fault) = refl
bad_slot slots.BodyNotChecked = refl
bad_slot (slots.Sound len) = refl

bad_finding : (f : BoardFinding) → has_verdict Bad (board_row f) ≡ is_bad f
bad_finding (found.Descriptor state) = bad_descriptor state
bad_finding (found.Region difference) = refl
bad_finding (found.PartitionTable state) = bad_table state
bad_finding (found.ResetVector state) = bad_vector state
bad_finding (found.FirmwareTable state) = bad_firmware state
bad_finding (found.MasterHeader h) = bad_header h.ends_with_bootblock h.state h.state
bad_finding (found.Gbb state) = bad_block state
bad_finding (found.Slot s) = bad_slot s.state

-- the same for all findings
pub bad_board : (findings : List BoardFinding) → list_any (has_verdict Bad) (map board_row findings) ≡ list_any is_bad findings
bad_board [] = refl
bad_board (f ∷ findings) = rw (bad_finding f, bad_board findings) refl
