-- Rows of the structures that a board boots from. This project defines their codes and texts.
use Rattle.std.specs.Prelude.{ℕ, zero, List, map, if◌then◌else◌}
use lib.Chars.{codes}
use Rattle.board_structures.specs.Descriptors.{area_name_of}
use Rattle.board_structures.specs.declared.descriptor.AreaDifference.{AreaDifference}
use Rattle.board_structures.specs.declared.descriptor.Descriptor.{Descriptor}
use Rattle.board_structures.specs.declared.descriptor.Descriptor.TheVariants as descriptors
use Rattle.board_structures.specs.declared.firmware_table.FirmwareTable.{FirmwareTable}
use Rattle.board_structures.specs.declared.firmware_table.FirmwareTable.TheVariants as firmware
use Rattle.board_structures.specs.declared.firmware_table.TableFault.{TableFault}
use Rattle.board_structures.specs.declared.firmware_table.TableFault.TheVariants as of_firmware
use Rattle.board_structures.specs.declared.firmware_table.UpdateFault.{UpdateFault}
use Rattle.board_structures.specs.declared.firmware_table.UpdateFault.TheVariants as updates
use Rattle.board_structures.specs.declared.gbb.Gbb.{Gbb}
use Rattle.board_structures.specs.declared.gbb.Gbb.TheVariants as blocks
use Rattle.board_structures.specs.declared.gbb.GbbFault.{GbbFault}
use Rattle.board_structures.specs.declared.gbb.GbbFault.TheVariants as of_block
use Rattle.board_structures.specs.declared.gbb.GbbField.{GbbField}
use Rattle.board_structures.specs.declared.gbb.GbbField.TheVariants as fields
use Rattle.board_structures.specs.declared.master_header.HeaderFault.{HeaderFault}
use Rattle.board_structures.specs.declared.master_header.HeaderFault.TheVariants as of_header
use Rattle.board_structures.specs.declared.master_header.MasterHeader.{MasterHeader}
use Rattle.board_structures.specs.declared.master_header.MasterHeader.TheVariants as headers
use Rattle.board_structures.specs.declared.partition_table.PartitionTable.{PartitionTable}
use Rattle.board_structures.specs.declared.partition_table.PartitionTable.TheVariants as tables
use Rattle.board_structures.specs.declared.reset_vector.ResetVector.{ResetVector}
use Rattle.board_structures.specs.declared.reset_vector.ResetVector.TheVariants as vectors
use Rattle.board_structures.specs.declared.signed_slot.SignedSlot.{SignedSlot}
use Rattle.board_structures.specs.declared.signed_slot.SignedSlot.TheVariants as slots
use Rattle.board_structures.specs.declared.signed_slot.SlotFault.{SlotFault}
use Rattle.board_structures.specs.declared.signed_slot.SlotFault.TheVariants as of_slot
use Rattle.board_structures.specs.declared.signed_slot.SlotSignature.{SlotSignature}
use Rattle.board_structures.specs.declared.signed_slot.SlotSignature.TheVariants as signatures
use Rattle.board_findings.specs.BoardFindings.{block_name}
use Rattle.board_findings.specs.declared.finding.BoardFinding.{BoardFinding}
use Rattle.board_findings.specs.declared.finding.BoardFinding.TheVariants as found
use Rattle.board_findings.specs.declared.finding.HeaderFinding.{HeaderFinding}
use Rattle.check_report.specs.declared.rows.row.Verdict.TheVariants.{Bad, Remark}
use Rattle.check_report.specs.Rows.{SeenRow, in_area, row, row_at, row_of, with_number}

-- ---- the files of Intel

abbrev pub descriptor_row : Descriptor → SeenRow
descriptor_row descriptors.Blank = row Remark "descriptor-blank" "blank: no flash descriptor"
descriptor_row descriptors.CutOff =
    row Bad "descriptor-invalid" "flash descriptor has less than 4096 bytes"
descriptor_row descriptors.NoSignature = row Bad "descriptor-invalid" "no flash descriptor"
descriptor_row descriptors.TableOutside =
    row Bad "descriptor-invalid" "table of regions ends outside the flash descriptor"
descriptor_row (descriptors.Described table) = row Remark "descriptor" "flash descriptor"

-- at the start of the area
abbrev pub difference_row : AreaDifference → SeenRow
difference_row d = row_at d.area.offset (in_area (area_name_of d.region)
    (row Bad "area-not-region" "isn't the region of the flash descriptor"))

abbrev pub table_row : PartitionTable → SeenRow
table_row tables.Blank = row Remark "me-table-blank" "blank: no partition table of the ME"
table_row tables.Missing = row Bad "me-table-invalid" "no partition table of the ME"
table_row (tables.Present at) = row Remark "me-table" "partition table of the ME"

-- ---- coreboot

abbrev pub vector_row : ResetVector → SeenRow
vector_row vectors.CutOff = row Bad "reset-vector-invalid" "image is too short for a reset vector"
vector_row vectors.Erased = row Bad "reset-vector-invalid" "reset vector is erased"
vector_row vectors.Cleared = row Bad "reset-vector-invalid" "reset vector is cleared"
vector_row vectors.Code = row Remark "reset-vector" "reset vector"

abbrev pub header_text : HeaderFault → List ℕ
header_text of_header.CutOff = codes "master header ends outside COREBOOT"
header_text of_header.NoMagic = codes "no master header"
header_text (of_header.Version version) = codes "master header has another version than 1112"
header_text (of_header.Start start) = codes "master header states another start of COREBOOT"
header_text (of_header.End end) = codes "master header states another end of COREBOOT"
header_text (of_header.Alignment alignment) = codes "master header has another alignment than 64"
header_text (of_header.Pointer pointer) =
    codes "last four bytes of COREBOOT don't point to the master header"

-- bad only if a bootblock ends the area
abbrev pub header_state_row : HeaderFinding → MasterHeader → SeenRow
header_state_row h (headers.Broken fault) = row_of (if h.ends_with_bootblock then Bad else Remark)
    (codes "master-header-invalid") (header_text fault)
header_state_row h headers.Sound = row Remark "master-header" "master header"

abbrev pub header_row : HeaderFinding → SeenRow
header_row h = header_state_row h h.state

-- why the microcode of an entry isn't accepted
abbrev pub update_text : UpdateFault → List ℕ
update_text updates.Misaligned = codes "microcode is at no multiple of 16"
update_text updates.Unmapped = codes "microcode lies outside the image"
update_text updates.CutOff = codes "microcode ends outside the image"
update_text (updates.Version version) = codes "microcode has another version than 1"
update_text (updates.Length len) = codes "microcode has a wrong length"
update_text updates.Sum = codes "microcode has another sum than 0"

-- an entry has its number in the table
abbrev pub table_fault_row : TableFault → SeenRow
table_fault_row of_firmware.Empty =
    row Bad "firmware-table-invalid" "firmware interface table has no entries"
table_fault_row of_firmware.CutOff =
    row Bad "firmware-table-invalid" "firmware interface table ends outside the image"
table_fault_row (of_firmware.Entry entry) = with_number entry.number
    (row_of Bad (codes "firmware-table-invalid") (update_text entry.fault))

-- (a table that is absent is no finding)
abbrev pub firmware_row : FirmwareTable → SeenRow
firmware_row firmware.Absent = row Remark "firmware-table" "no firmware interface table"
firmware_row (firmware.Broken fault) = table_fault_row fault
firmware_row (firmware.Sound count) = row Remark "firmware-table" "firmware interface table"

-- ---- vboot

abbrev pub place_text : GbbField → List ℕ
place_text fields.HardwareId = codes "hardware id lies outside the GBB"
place_text fields.RootKey = codes "root key lies outside the GBB"
place_text fields.Bitmap = codes "bitmaps lie outside the GBB"
place_text fields.RecoveryKey = codes "recovery key lies outside the GBB"

abbrev pub key_text : GbbField → List ℕ
key_text fields.HardwareId = codes "no usable key"
key_text fields.RootKey = codes "no usable root key"
key_text fields.Bitmap = codes "no usable key"
key_text fields.RecoveryKey = codes "no usable recovery key"

abbrev pub block_text : GbbFault → List ℕ
block_text of_block.CutOff = codes "GBB has less than 128 bytes"
block_text of_block.NoSignature = codes "no GBB"
block_text (of_block.MajorVersion version) = codes "GBB has another major version than 1"
block_text (of_block.HeaderLength len) = codes "GBB has another header length than 128"
block_text (of_block.FieldOutside field) = place_text field
block_text of_block.NoTerminator = codes "hardware id has no end"
block_text of_block.HardwareIdDigest = codes "hardware id has another digest"
block_text (of_block.Key key) = key_text key.field

-- flags are a remark with their value
abbrev pub block_row : Gbb → SeenRow
block_row blocks.Blank = row Remark "gbb-blank" "blank: no GBB"
block_row (blocks.Broken fault) = row_of Bad (codes "gbb-invalid") (block_text fault)
block_row (blocks.Sound zero) = row Remark "gbb" "GBB"
block_row (blocks.Sound flags) =
    with_number flags (row Remark "gbb-flags" "flags weaken the verification")

abbrev pub signature_text : SlotSignature → List ℕ
signature_text signatures.Keyblock = codes "signature of the keyblock lies outside it"
signature_text signatures.Checksum = codes "checksum of the keyblock lies outside it"
signature_text signatures.Preamble = codes "signature of the preamble lies outside it"
signature_text signatures.Body = codes "signature of the body lies outside the preamble"

abbrev pub signed_text : SlotSignature → List ℕ
signed_text signatures.Keyblock = codes "signed bytes of the keyblock end outside it"
signed_text signatures.Checksum = codes "bytes under the checksum end outside the keyblock"
signed_text signatures.Preamble = codes "signed bytes of the preamble end outside it"
signed_text signatures.Body = codes "signed bytes of the body end outside it"

abbrev pub slot_text : SlotFault → List ℕ
slot_text of_slot.CutOff = codes "keyblock has less than 112 bytes"
slot_text of_slot.NoMagic = codes "no keyblock"
slot_text (of_slot.KeyblockVersion version) = codes "keyblock has another major version than 2"
slot_text (of_slot.KeyblockLength len) = codes "keyblock has a wrong length"
slot_text (of_slot.SignatureOutside signature) = signature_text signature
slot_text (of_slot.SignedOutside signature) = signed_text signature
slot_text (of_slot.ChecksumLength len) = codes "checksum of the keyblock hasn't 64 bytes"
slot_text (of_slot.TooLong len) = codes "checksum covers more than 4096 bytes"
slot_text (of_slot.DataKey fault) = codes "no usable data key"
slot_text of_slot.Checksum = codes "keyblock has another checksum"
slot_text of_slot.PreambleCutOff = codes "no preamble"
slot_text (of_slot.PreambleVersion version) = codes "preamble has another major version than 2"
slot_text (of_slot.PreambleLength len) = codes "preamble has a wrong length"
slot_text (of_slot.BodyShort signed) = codes "components aren't signed: sign the slot again"
slot_text (of_slot.BodyLong signed) =
    codes "signed bytes end outside the slot: sign the slot again"

abbrev pub slot_row : SignedSlot → SeenRow
slot_row slots.Blank = row Remark "slot-blank" "blank: no signatures"
slot_row (slots.Broken fault) = row_of Bad (codes "slot-invalid") (slot_text fault)
slot_row slots.BodyNotChecked =
    row Remark "slot-not-checked" "body isn't checked: no length is signed"
slot_row (slots.Sound len) = row Remark "slot" "signed slot"

-- ---- the board

abbrev pub board_row : BoardFinding → SeenRow
board_row (found.Descriptor state) = in_area (codes "SI_DESC") (descriptor_row state)
board_row (found.Region difference) = difference_row difference
board_row (found.PartitionTable state) = in_area (codes "SI_ME") (table_row state)
board_row (found.ResetVector state) = in_area (codes "COREBOOT") (vector_row state)
board_row (found.FirmwareTable state) = in_area (codes "COREBOOT") (firmware_row state)
board_row (found.MasterHeader h) = in_area (codes "COREBOOT") (header_row h)
board_row (found.Gbb state) = in_area (codes "GBB") (block_row state)
board_row (found.Slot s) = in_area (block_name s.slot) (slot_row s.state)

abbrev pub board_rows : List BoardFinding → List SeenRow
board_rows findings = map board_row findings
