use Rattle.std.proofs.Common.{◌≡◌, length, refl, sym, ◌∙◌}
use Rattle.flash_format.specs.Cut.{cut}
use Rattle.flash_format.specs.Head.{head_of}
use Rattle.check_findings.specs.RegionFindings.{entry_counts}
use Rattle.check_laws.specs.Samples.{component_cell, free_cell, small_region}
use Rattle.check_laws.proofs.SmallRegion.{cells_are}
use Rattle.check_laws.proofs.numbers.a_region_has_one_component.Goals as goal

counted : (entry_counts (length small_region) (cut small_region).cells).components ≡ 1
unfolding head_of component_cell free_cell
counted = rw cells_are refl

pub returns : goal.returns
returns c = sym (c.counts_are_of_the_entries.ensures small_region).0 ∙ counted
