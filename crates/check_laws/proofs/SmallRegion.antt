-- The literal region: its findings, entries and components.
use Rattle.std.proofs.Common.{◌≡◌, false, [], ◌∷◌, None, refl}
use Rattle.std.specs.List.{list_any}
use lib.Chars.{codes}
use Rattle.flash_format.specs.Head.{head_of, head_at, extent_of}
use Rattle.flash_format.specs.Entry.{entry, attr_head_of, scan_after}
use Rattle.flash_format.specs.Cut.{cut, cut_after, complete}
use Rattle.flash_format.specs.Components.{Component, component_at, components, components_from}
use Rattle.cbfs_walk.specs.Shapes.{shape_fault}
use Rattle.check_findings.specs.Attributes.{fault_after, walk_after}
use Rattle.check_findings.specs.RegionFindings.{cells_findings, component_content, region_findings, tail_findings, walk_findings}
use Rattle.check_findings.specs.Verdicts.{is_bad_region, rules_of}
use Rattle.check_laws.specs.Samples.{component_cell, free_cell, small_region}

pub cells_are : cut small_region ≡ record { cells = component_cell ∷ free_cell ∷ []; end = complete }
unfolding cut_after entry head_of head_at extent_of scan_after attr_head_of small_region component_cell free_cell
cells_are = refl

pub none_bad : list_any (is_bad_region (rules_of false None)) (region_findings small_region) ≡ false
unfolding walk_after fault_after region_findings walk_findings cells_findings tail_findings cut_after entry head_of head_at extent_of scan_after attr_head_of small_region component_cell free_cell
none_bad = refl

pub shaped : shape_fault small_region ≡ None
unfolding head_of head_at small_region component_cell free_cell
shaped = refl

abbrev pub its_component : Component
its_component = component_at 0 component_cell

pub one_component : components small_region ≡ its_component ∷ []
unfolding components_from cut_after entry head_of head_at extent_of scan_after attr_head_of small_region component_cell free_cell
one_component = refl

pub its_name : its_component.name ≡ codes "a"
unfolding head_of component_cell
its_name = refl

pub its_numbers : ((component_content its_component).start ≡ 28) × ((component_content its_component).len ≡ 4)
unfolding head_of component_cell
its_numbers = (refl, refl)
