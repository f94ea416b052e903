-- The literal image: its survey.
use Rattle.std.proofs.Common.{◌≡◌, false, length, Some, Ok, refl}
use Rattle.memchr.specs.Find.{first_of, matches_from}
use Rattle.flash_format.specs.Components.{components_from}
use Rattle.flash_format.specs.Cut.{cut_after}
use Rattle.flash_format.specs.Entry.{attr_head_of, scan_after, entry}
use Rattle.flash_format.specs.Flashmap.{area_of, areas_from, fmap_head_of, has_signature, is_map, is_valid_head, map_from}
use Rattle.flash_format.specs.Head.{extent_of, head_at, head_of}
use Rattle.flash_device.specs.Regions.{bytes_in}
use Rattle.flash_map.specs.Fmap.{found_in}
use Rattle.cbfs_anchor.specs.declared.demand.Demand.TheVariants.{Found}
use Rattle.cbfs_anchor.specs.Layout.{anchor_in, digests_range}
use Rattle.cbfs_anchor.specs.Metadata.{all_metadata, first_fault, metadata_in}
use Rattle.cbfs_anchor.specs.Places.{is_misplaced, place_in}
use Rattle.cbfs_anchor.specs.Samples.{free_cell, small_anchor, small_found, small_image, small_map, small_place, small_survey, unsealed_anchor}
use Rattle.cbfs_anchor.specs.Seals.{survey_in}

pub its_length : length small_image ≡ 320
unfolding small_image small_map free_cell unsealed_anchor
its_length = refl

pub its_map : found_in small_image ≡ Some small_found
unfolding map_from is_map has_signature is_valid_head fmap_head_of small_image small_map free_cell unsealed_anchor
its_map = refl

pub its_survey : survey_in Found small_image ≡ Ok small_survey
unfolding survey_in place_in anchor_in metadata_in all_metadata first_fault components_from cut_after entry head_of head_at extent_of scan_after attr_head_of matches_from first_of map_from is_map has_signature is_valid_head fmap_head_of areas_from area_of small_image small_map free_cell unsealed_anchor
its_survey = refl

pub map_bytes : bytes_in small_place.map small_image ≡ small_map
unfolding small_image small_map free_cell unsealed_anchor
map_bytes = refl

pub entry_bytes : bytes_in small_place.coreboot small_image ≡ free_cell
unfolding small_image small_map free_cell unsealed_anchor
entry_bytes = refl

pub well_placed : is_misplaced small_place (digests_range small_anchor) ≡ false
well_placed = refl
