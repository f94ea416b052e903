-- Rows of an anchor. This project defines their codes and texts.
use Rattle.std.specs.Prelude.{ℕ, Bool, true, false, List, ◌++◌, if◌then◌else◌}
use lib.Chars.{codes}
use Rattle.cbfs_anchor.specs.AlgorithmNames.{name_of}
use Rattle.cbfs_anchor.specs.declared.algorithm.Algorithm.{Algorithm}
use Rattle.check_findings.specs.declared.anchor.finding.AnchorFinding.{AnchorFinding}
use Rattle.check_findings.specs.declared.anchor.finding.AnchorFinding.TheVariants.{CutOff, FlashMap, Metadata, NotChecked, UnknownAlgorithm}
use Rattle.check_findings.specs.declared.anchor.finding.AnchorSpot.{AnchorSpot}
use Rattle.check_findings.specs.declared.anchor.finding.Bootblock.{Bootblock}
use Rattle.check_findings.specs.declared.anchor.finding.Bootblock.TheVariants.{Area, Component}
use Rattle.check_report.specs.declared.rows.row.Verdict.TheVariants.{Bad, Remark}
use Rattle.check_report.specs.Rows.{SeenRow, in_area, of_component, row, row_at, row_of}

-- the row in the area BOOTBLOCK, or in the component `bootblock` of COREBOOT
abbrev pub in_bootblock : Bootblock → SeenRow → SeenRow
in_bootblock Area row = in_area (codes "BOOTBLOCK") row
in_bootblock Component row = of_component (codes "COREBOOT") (codes "bootblock") row

abbrev pub at_spot : AnchorSpot → SeenRow → SeenRow
at_spot spot row = row_at spot.at (in_bootblock spot.bootblock row)

-- the state after the name of a digest's algorithm; the text for an invalid digest names a remedy
abbrev pub state_text : Bool → List ℕ
state_text valid = if valid then codes " valid" else codes " invalid: run cbfsseal IMAGE"

abbrev pub metadata_text : Algorithm → Bool → List ℕ
metadata_text algorithm valid =
    codes "metadata hash " ++ name_of algorithm ++ state_text valid

abbrev pub map_text : Algorithm → Bool → List ℕ
map_text algorithm valid = codes "map hash " ++ name_of algorithm ++ state_text valid

abbrev pub metadata_row : Algorithm → Bool → SeenRow
metadata_row algorithm true =
    row_of Remark (codes "metadata-hash-valid") (metadata_text algorithm true)
metadata_row algorithm false =
    row_of Bad (codes "metadata-hash-invalid") (metadata_text algorithm false)

abbrev pub map_row : Algorithm → Bool → SeenRow
map_row algorithm true = row_of Remark (codes "map-hash-valid") (map_text algorithm true)
map_row algorithm false = row_of Bad (codes "map-hash-invalid") (map_text algorithm false)

abbrev pub anchor_row : AnchorFinding → SeenRow
anchor_row (Metadata spot algorithm valid) = at_spot spot (metadata_row algorithm valid)
anchor_row (FlashMap spot algorithm valid) = at_spot spot (map_row algorithm valid)
anchor_row (NotChecked spot) = at_spot spot
    (row Bad "anchor-not-checked" "anchor isn't checked: COREBOOT is damaged")
anchor_row (UnknownAlgorithm bootblock) = in_bootblock bootblock
    (row Bad "anchor-unknown-algorithm" "anchor with an unknown algorithm")
anchor_row (CutOff bootblock) =
    in_bootblock bootblock (row Bad "anchor-cut-off" "anchor is cut off")
