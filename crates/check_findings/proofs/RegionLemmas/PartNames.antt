-- Parts of the findings of a region.
use Rattle.std.proofs.Common.{ℕ, ◌+◌, ◌*◌, Bool, List, ◌∷◌, drop, filter, map}
use Rattle.std.specs.Prelude.{is_some}
use Rattle.std.specs.List.{range_with_len, scan}
use Rattle.flash_format.specs.Components.{Component}
use Rattle.flash_format.specs.Entry.{front}
use Rattle.check_findings.specs.RegionFindings.{component_content, marked}
use Rattle.check_findings.specs.declared.region.finding.RegionFinding.{RegionFinding}
use Rattle.check_findings.specs.declared.region.finding.RegionFinding.TheVariants.{TailEntry, Component as Found}

abbrev pub component_finding : Bool → Component → RegionFinding
component_finding shadowed c = Found c.at c.name shadowed (component_content c)

-- the findings after some findings, with marks
unfoldable pub all_marked : List RegionFinding → List RegionFinding → List RegionFinding
all_marked earlier all = scan (λ earlier finding. finding ∷ earlier) marked earlier all

-- of the entries at n offsets in steps of 64
abbrev pub entries_findings : ℕ → ℕ → List ℕ → List RegionFinding
entries_findings n at x = map TailEntry (filter (λ p. is_some (front (drop p x))) (map (λ i. at + 64 * i) (range_with_len 0 n)))
