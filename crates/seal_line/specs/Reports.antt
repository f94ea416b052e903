-- The printed report of cbfsseal.
use Rattle.std.specs.Prelude.{ℕ, Bool, List, ◌++◌, take, if◌then◌else◌}
use lib.Chars.{codes}
use Rattle.hex.specs.Hex.{encode_lower}
use Rattle.cbfs_anchor.specs.AlgorithmNames.{name_of}
use Rattle.cbfs_anchor.specs.Algorithms.{digest_len}
use Rattle.cbfs_anchor.specs.declared.algorithm.Algorithm.{Algorithm}
use Rattle.cbfs_anchor.specs.declared.report.Report.{Report}

-- whether the anchor had the digest before
abbrev pub state_text : Bool → List ℕ
state_text is_valid = if is_valid then codes "valid" else codes "renewed"

-- `metadata sha256 DIGITS valid` and a line feed
unfoldable pub digest_line : List ℕ → Algorithm → List ℕ → Bool → List ℕ
digest_line what algorithm digest is_valid = what ++ codes " " ++ name_of algorithm ++ codes " "
    ++ encode_lower digest ++ codes " " ++ state_text is_valid ++ codes "\n"

abbrev pub report_text : Report → List ℕ
report_text report = let algorithm = report.anchor.algorithm in let n = digest_len algorithm in
    digest_line (codes "metadata") algorithm (take n report.metadata) report.metadata_valid
    ++ digest_line (codes "flashmap") algorithm (take n report.map) report.map_valid
