-- Rows of the attributes of components. This project defines their code and texts.
use Rattle.std.specs.Prelude.{ℕ, List, Option}
use Rattle.std.specs.Option.{option_map, option_to_list}
use lib.Chars.{codes}
use Rattle.check_findings.specs.declared.region.finding.AttributeFault.{AttributeFault}
use Rattle.check_findings.specs.declared.region.finding.AttributeFault.TheVariants.{BehindEnd, CompressionLength, DigestLength, UnknownAlgorithm, SecondDigest, NoStage, EntryOutside}
use Rattle.check_report.specs.declared.rows.row.Verdict.TheVariants.{Bad}
use Rattle.check_report.specs.Rows.{SeenRow, at_component, row_of}

abbrev pub fault_text : AttributeFault → List ℕ
fault_text BehindEnd = codes "an attribute stands behind the end of the attributes"
fault_text CompressionLength = codes "compression attribute hasn't 16 bytes"
fault_text DigestLength = codes "digest attribute has a wrong length"
fault_text UnknownAlgorithm = codes "digest has an unknown algorithm"
fault_text SecondDigest = codes "second digest: only the first is compared"
fault_text NoStage = codes "stage has no stage attribute of 24 bytes"
fault_text EntryOutside = codes "entry point of the stage lies outside its memory"

-- the row of a fault, at the component
abbrev pub fault_row : List ℕ → ℕ → List ℕ → AttributeFault → SeenRow
fault_row region at name fault =
    at_component region at name (row_of Bad (codes "attributes-invalid") (fault_text fault))

-- the row of the first fault, if any
abbrev pub attribute_rows : List ℕ → ℕ → List ℕ → Option AttributeFault → List SeenRow
attribute_rows region at name fault =
    option_to_list (option_map (fault_row region at name) fault)
