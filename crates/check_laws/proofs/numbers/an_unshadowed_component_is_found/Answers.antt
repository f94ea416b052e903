use Rattle.std.proofs.Common.{zero, suc, ◌∷◌, [], true, refl, subst, sym, arith}
use Rattle.std.specs.Prelude.{Contains, List}
use Rattle.flash_format.specs.Cut.{cut_after}
use Rattle.flash_format.specs.Entry.{entry, attr_head_of, scan_after}
use Rattle.flash_format.specs.Head.{head_of, head_at, extent_of}
use Rattle.flash_format.specs.Components.{Component}
use Rattle.check_findings.specs.Attributes.{fault_after, walk_after}
use Rattle.check_findings.specs.RegionFindings.{cells_findings, component_content, region_findings, tail_findings, walk_findings}
use Rattle.check_findings.specs.declared.region.finding.RegionFinding.{RegionFinding}
use Rattle.check_findings.specs.declared.region.finding.RegionFinding.TheVariants as findings
use Rattle.check_laws.specs.Samples.{component_cell, free_cell, small_region}
use Rattle.check_laws.proofs.SmallRegion.{its_component, its_name, its_numbers, one_component, shaped}
use Rattle.check_laws.proofs.numbers.an_unshadowed_component_is_found.Goals as goal

abbrev shadowed : RegionFinding
shadowed = findings.Component 0 its_component.name true (component_content its_component)

-- none of the five findings is that of a shadowed component
unshadowed : Contains (region_findings small_region) shadowed → ⊥
unfolding walk_after fault_after region_findings walk_findings cells_findings tail_findings cut_after entry head_of head_at extent_of scan_after attr_head_of small_region component_cell free_cell
unshadowed (zero, below, is) = cc
unshadowed (suc zero, below, is) = cc
unshadowed (suc (suc zero), below, is) = cc
unshadowed (suc (suc (suc zero)), below, is) = cc
unshadowed (suc (suc (suc (suc zero))), below, is) = cc
unshadowed (suc (suc (suc (suc (suc k)))), below, is) = omega (arith, below)

pub returns : goal.returns
returns c =
    let there : Contains (its_component ∷ []) its_component = (0, omega arith, refl) in
    let found = c.unshadowed_components_are_found.ensures small_region its_component shaped (subst (λ (l : List Component). Contains l its_component) (sym one_component) there) unshadowed in
    rw (← its_name, found) its_numbers
