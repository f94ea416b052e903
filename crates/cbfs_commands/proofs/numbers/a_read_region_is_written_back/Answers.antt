use Rattle.std.proofs.Common.{◌≡◌, [], Ok, refl, ◌∙◌}
use lib.Chars.{codes}
use Rattle.flash_format.specs.Flashmap.{area_of, areas_from, fmap_head_of, has_signature, is_map, is_valid_head, map_from}
use Rattle.flash_device.specs.Regions.{Range, bytes_in}
use Rattle.flash_map.specs.Regions.{region_of}
use Rattle.cbfs_anchor.specs.Samples.{free_cell, small_image, small_map, unsealed_anchor}
use Rattle.cbfs_requests.specs.Requests.{layout, read}
use Rattle.cbfs_commands.specs.Outcomes.{printed_in, shows}
use Rattle.cbfs_commands.specs.Samples.{changed_image}
use Rattle.cbfs_commands.proofs.numbers.a_read_region_is_written_back.Goals as goal

abbrev coreboot : Range
coreboot = record { start = 192; size = 64 }

here : region_of small_image (codes "COREBOOT") ≡ Ok coreboot
unfolding region_of map_from is_map has_signature is_valid_head fmap_head_of areas_from area_of small_image small_map free_cell unsealed_anchor
here = refl

there : region_of changed_image (codes "COREBOOT") ≡ Ok coreboot
unfolding region_of map_from is_map has_signature is_valid_head fmap_head_of areas_from area_of changed_image small_map free_cell unsealed_anchor
there = refl

entry_here : bytes_in coreboot small_image ≡ free_cell
unfolding small_image small_map free_cell unsealed_anchor
entry_here = refl

same_entry : bytes_in coreboot changed_image ≡ bytes_in coreboot small_image
unfolding small_image changed_image small_map free_cell unsealed_anchor
same_entry = refl

read_here : printed_in small_image (codes "COREBOOT") shows ≡ shows free_cell
read_here = rw (here, entry_here) refl

pub returns-clause-back : goal.returns-clause-back
returns-clause-back c = c.outcomes_depend_on_bytes.ensures.written_back small_image (codes "COREBOOT") free_cell read_here

pub returns-clause-changed : goal.returns-clause-changed
returns-clause-changed c = (c.outcomes_depend_on_bytes.ensures.of_region (codes "COREBOOT") read coreboot small_image changed_image [] here there same_entry).printout ∙ read_here

pub returns-clause-own : goal.returns-clause-own
returns-clause-own c = c.outcomes_depend_on_bytes.ensures.faultless layout small_image []
