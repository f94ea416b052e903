-- The literal image: its map and areas, and its findings.
use Rattle.std.proofs.Common.{◌≡◌, ◌≤◌, ◌*◌, arith, ℕ, false, List, [], ◌∷◌, length, None, refl, ◌∙◌}
use Rattle.std.specs.List.{list_any}
use Rattle.std.specs.Str.{chars, is_utf8}
use lib.Chars.{codes}
use lib.Utf8
use Rattle.flash_format.specs.Head.{head_of, head_at, extent_of}
use Rattle.flash_format.specs.Entry.{entry, attr_head_of, scan_after}
use Rattle.flash_format.specs.Cut.{cut_after}
use Rattle.flash_format.specs.Flashmap.{area_of, areas_from, fmap_head_of, has_signature, is_map, is_valid_head, map_from}
use Rattle.flash_format.specs.Components.{components_from}
use Rattle.cbfs_walk.specs.Search.{component_in}
use Rattle.cbfs_anchor.specs.Places.{place_in}
use Rattle.check_findings.specs.Anchors.{anchor_findings, image_anchor}
use Rattle.check_findings.specs.Areas.{image_areas}
use Rattle.check_findings.specs.ImageFindings.{areas_to_check, bytes_of, image_findings, region_areas, sum_sizes}
use Rattle.check_findings.specs.MapFindings.{map_findings}
use Rattle.check_findings.specs.Attributes.{fault_after, walk_after}
use Rattle.check_findings.specs.RegionFindings.{cells_findings, region_findings, tail_findings, walk_findings}
use Rattle.check_findings.specs.Verdicts.{is_bad}
use Rattle.check_findings.specs.Needs.{unmet}
use Rattle.check_findings.specs.declared.image.finding.ImageFinding.{ImageFinding}
use Rattle.check_findings.specs.declared.image.needs.Need.{Need}
use Rattle.check_findings.specs.declared.image.needs.NeededPlace.{NeededPlace}
use Rattle.check_findings.specs.declared.image.needs.NeededPlace.TheVariants.{At}
use Rattle.check_findings.specs.declared.map.finding.MapFinding.TheVariants.{Map}
use Rattle.check_laws.specs.Samples.{component_cell, coreboot_area, free_cell, small_found, small_image, small_map, small_region}

pub only_the_map : map_findings small_image ≡ Map small_found ∷ []
unfolding map_findings map_from is_map has_signature is_valid_head fmap_head_of areas_from area_of is_utf8 chars lib.Utf8.encode small_image small_map small_region component_cell free_cell
only_the_map = refl

pub no_bad_finding : list_any (is_bad false) (image_findings small_image [] []) ≡ false
unfolding image_findings anchor_findings image_anchor place_in component_in components_from image_areas map_findings map_from is_map has_signature is_valid_head fmap_head_of areas_from area_of is_utf8 chars lib.Utf8.encode walk_after fault_after region_findings walk_findings cells_findings tail_findings cut_after entry head_of head_at extent_of scan_after attr_head_of small_image small_map small_region component_cell free_cell
no_bad_finding = refl

pub one_region : region_areas (image_findings small_image [] []) ≡ coreboot_area ∷ []
unfolding image_findings anchor_findings image_anchor place_in component_in components_from image_areas map_findings map_from is_map has_signature is_valid_head fmap_head_of areas_from area_of is_utf8 chars lib.Utf8.encode walk_after fault_after region_findings walk_findings cells_findings tail_findings cut_after entry head_of head_at extent_of scan_after attr_head_of small_image small_map small_region component_cell free_cell
one_region = refl

pub one_to_check : areas_to_check small_image [] [] ≡ coreboot_area ∷ []
unfolding image_findings anchor_findings image_anchor place_in component_in components_from image_areas map_findings map_from is_map has_signature is_valid_head fmap_head_of areas_from area_of is_utf8 chars lib.Utf8.encode walk_after fault_after region_findings walk_findings cells_findings tail_findings cut_after entry head_of head_at extent_of scan_after attr_head_of small_image small_map small_region component_cell free_cell
one_to_check = refl

pub few_bytes : sum_sizes (coreboot_area ∷ []) ≤ 2 * length small_image
unfolding small_image small_map small_region component_cell free_cell
few_bytes = omega arith

pub its_region : bytes_of small_image coreboot_area ≡ small_region
unfolding small_image small_map small_region component_cell free_cell
its_region = refl

by_parts : (all : List ImageFinding) (need : Need) (area name : List ℕ) (place : NeededPlace) → need.area.now ≡ area → need.name.now ≡ name → need.place ≡ place
    → unmet all need ≡ unmet all (record { area = record need.area { now = area }; name = record need.name { now = name }; place = place })
by_parts all need area name place is_area is_name is_place = rw (is_area, is_name, is_place) refl

literal_met : (need : Need) → unmet (image_findings small_image [] []) (record { area = record need.area { now = codes "COREBOOT" }; name = record need.name { now = codes "a" }; place = At 28 }) ≡ None
unfolding image_findings anchor_findings image_anchor place_in component_in components_from image_areas map_findings map_from is_map has_signature is_valid_head fmap_head_of areas_from area_of is_utf8 chars lib.Utf8.encode walk_after fault_after region_findings walk_findings cells_findings tail_findings cut_after entry head_of head_at extent_of scan_after attr_head_of small_image small_map small_region component_cell free_cell
literal_met need = refl

pub need_met : (need : Need) → need.area.now ≡ codes "COREBOOT" → need.name.now ≡ codes "a" → need.place ≡ At 28 → unmet (image_findings small_image [] []) need ≡ None
need_met need area name place = by_parts (image_findings small_image [] []) need (codes "COREBOOT") (codes "a") (At 28) area name place ∙ literal_met need
