-- Rows of the structures that an update loses. This project defines their codes and texts.
use Rattle.std.specs.Prelude.{ℕ, List}
use lib.Chars.{codes}
use Rattle.board_structures.specs.Descriptors.{area_name_of}
use Rattle.board_findings.specs.BoardFindings.{block_name}
use Rattle.board_findings.specs.declared.structure.Structure.{Structure}
use Rattle.board_findings.specs.declared.structure.Structure.TheVariants as structures
use Rattle.check_report.specs.declared.rows.row.Verdict.TheVariants.{Bad}
use Rattle.check_report.specs.Rows.{SeenRow, in_area, row_of}

-- the area in which the structure is looked for
abbrev pub area_of : Structure → List ℕ
area_of structures.FlashDescriptor = codes "SI_DESC"
area_of (structures.Region region) = area_name_of region
area_of structures.PartitionTable = codes "SI_ME"
area_of structures.Bootblock = codes "COREBOOT"
area_of structures.FirmwareTable = codes "COREBOOT"
area_of structures.MasterHeader = codes "COREBOOT"
area_of structures.Gbb = codes "GBB"
area_of (structures.Slot slot) = block_name slot

abbrev pub gone_text : Structure → List ℕ
gone_text structures.FlashDescriptor = codes "flash descriptor is gone"
gone_text (structures.Region region) = codes "region of the flash descriptor is unused now"
gone_text structures.PartitionTable = codes "partition table of the ME is gone"
gone_text structures.Bootblock = codes "no bootblock ends the image any more"
gone_text structures.FirmwareTable = codes "firmware interface table is gone"
gone_text structures.MasterHeader = codes "master header is gone"
gone_text structures.Gbb = codes "GBB is gone"
gone_text (structures.Slot slot) = codes "signatures of the slot are gone"

-- always bad: the board needs each structure that it boots from
abbrev pub structure_row : Structure → SeenRow
structure_row structure =
    in_area (area_of structure) (row_of Bad (codes "structure-gone") (gone_text structure))
