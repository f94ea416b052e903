-- Each component of a list has its digests.
use Rattle.std.proofs.Common.{◌≡◌, ◌∙◌, ℕ, ◌+◌, ◌*◌, Bool, true, false, cond, List, [], ◌∷◌, ◌++◌, Option, Some, None, length, map, nat_le, refl, sym, ap, arith, append-nil, length-append}
use Rattle.std.specs.Prelude.{◌==◌, filter, find, is_none}
use Rattle.std.proofs.lemmas.List.{length-map}
use Rattle.std.proofs.lemmas.Grind.{flat_map-append}
use Rattle.std.specs.List.{enumerate_from, flat_map}
use Rattle.std.specs.Option.{option_map_or}
use Rattle.flash_format.specs.Components.{component_at, components, components_from}
use Rattle.flash_format.specs.Cut.{End, complete, cut, damage, tail}
use Rattle.flash_format.specs.Head.{head_of, is_free}
use Rattle.flash_device.specs.Regions.{Range, bytes_in}
use Rattle.cbfs_anchor.specs.declared.anchor.Anchor.{Anchor}
use Rattle.cbfs_walk.specs.CellReadings.{place_after}
use Rattle.cbfs_walk.specs.Shapes.{shape_fault}
use Rattle.cbfs_walk.specs.declared.walk.WalkFault.{WalkFault}
use Rattle.cbfs_walk.specs.declared.walk.WalkFault.TheVariants as walk
use Rattle.check_findings.proofs.RegionLemmas.PartNames.{all_marked, component_finding}
use Rattle.check_findings.specs.Anchors.{anchor_findings, image_anchor}
use Rattle.check_findings.specs.Areas.{has_name, image_areas}
use Rattle.check_findings.specs.ImageFindings.{area_finding, areas_findings, areas_to_check, covering, entry_bytes, expects, image_findings, left_after, missing_name, range_of, region_area, region_areas}
use Rattle.check_findings.specs.Lists.{only_if}
use Rattle.check_findings.specs.MapFindings.{map_findings}
use Rattle.check_findings.specs.RegionFindings.{cell_findings, cells_findings, count_findings, end_findings, entry_counts, entry_range, filled_tail, first_filled, is_unaligned, marked, offsets_from, has_entry_at, range_findings, region_findings, shape_findings, tail_findings, walk_findings}
use Rattle.check_findings.specs.declared.anchor.finding.AnchorFinding.{AnchorFinding}
use Rattle.check_findings.specs.declared.areas.NumberedArea.{NumberedArea}
use Rattle.check_findings.specs.declared.image.finding.ImageFinding.{ImageFinding}
use Rattle.check_findings.specs.declared.image.finding.ImageFinding.TheVariants.{Anchor as OfAnchor, Map, NoArea, NotChecked, Region}
use Rattle.check_findings.specs.declared.map.finding.MapFinding.{MapFinding}
use Rattle.check_findings.specs.declared.region.finding.RegionFinding.{RegionFinding}
use Rattle.check_findings.specs.declared.region.finding.RegionFinding.TheVariants as findings
use Rattle.check_digests.specs.Digests.{digests_in, digests_of, image_digests, region_digests}
use Rattle.check_report.specs.Rows.{area_name}
use Rattle.check_report.specs.Reports.{listed_components, listed_in, listed_of}

-- the number of listed components
abbrev count : List ℕ → List RegionFinding → ℕ
count area found = length (flat_map (listed_in area) found)

count-append : (area : List ℕ) (xs ys : List RegionFinding) → count area (xs ++ ys) ≡ count area xs + count area ys
count-append area xs ys = ap length (flat_map-append (listed_in area) xs ys) ∙ length-append _ _

-- ---- findings without components

no_entries : (area : List ℕ) (places : List ℕ) → count area (map findings.TailEntry places) ≡ 0
no_entries area [] = refl
no_entries area (place ∷ places) = no_entries area places

none_in_tail : (area : List ℕ) (at : ℕ) (x : List ℕ) → count area (tail_findings at x) ≡ 0
unfolding tail_findings
none_in_tail area at x = go (first_filled at x)
  where
    go : (found : Option ℕ) → count area (findings.Tail at ∷ option_map_or (filled_tail at x) found []) ≡ 0
    go None = refl
    go (Some filled) = no_entries area (filter (λ place. has_entry_at place x) (offsets_from at x))

none_at_end : (area x : List ℕ) (at : ℕ) (end : End) → count area (end_findings x at end) ≡ 0
none_at_end area x at complete = refl
none_at_end area x at tail = none_in_tail area at x
none_at_end area x at (damage kind) = refl

none_of_shape : (area : List ℕ) (fault : WalkFault) → count area (shape_findings fault) ≡ 0
none_of_shape area walk.RegionShape = refl
none_of_shape area walk.NotCbfs = refl
none_of_shape area walk.Device = refl
none_of_shape area (walk.Damaged at kind) = refl

-- ---- the components of a region

of_cells : (area : List ℕ) (at : ℕ) (cells : List (List ℕ)) → count area (cells_findings at cells) ≡ length (components_from at cells)
unfolding cells_findings components_from
of_cells area at [] = refl
of_cells area at (x ∷ cells) =
    count-append area (cell_findings at x) (cells_findings (at + length x) cells)
    ∙ ap (λ n. count area (cell_findings at x) + n) (of_cells area (at + length x) cells)
    ∙ go (is_free (head_of x)) ((head_of x).kind == 0) (components_from (at + length x) cells)
  where
    go : (free deleted : Bool) (others : _) → count area (cond free (only_if deleted (findings.Deleted at)) (component_finding false (component_at at x) ∷ [])) + length others ≡ length (cond free others (component_at at x ∷ others))
    go true true others = omega arith
    go true false others = omega arith
    go false deleted others = omega arith

of_walk : (area x : List ℕ) → count area (walk_findings x) ≡ length (region_digests x)
unfolding walk_findings region_digests
of_walk area x = go (shape_fault x)
  where
    cells : List (List ℕ)
    cells = (cut x).cells

    rest : List RegionFinding
    rest = end_findings x (place_after 0 cells) (cut x).end ++ count_findings (entry_counts (length x) cells)

    go : (o : Option WalkFault) → count area (option_map_or shape_findings o (cells_findings 0 cells ++ rest)) ≡ length (option_map_or (λ fault. []) o (map digests_of (components x)))
    go (Some fault) = none_of_shape area fault
    go None =
        count-append area (cells_findings 0 cells) rest
        ∙ ap (λ n. count area (cells_findings 0 cells) + n) (count-append area (end_findings x (place_after 0 cells) (cut x).end) _)
        ∙ omega (arith, of_cells area 0 cells, none_at_end area x (place_after 0 cells) (cut x).end, length-map (components x) digests_of)

of_mark : (area : List ℕ) (earlier : List RegionFinding) (f : RegionFinding) → count area (marked earlier f ∷ []) ≡ count area (f ∷ [])
of_mark area earlier (findings.Component at name is content) = refl
of_mark area earlier other = refl

of_marks : (area : List ℕ) (earlier all : List RegionFinding) → count area (all_marked earlier all) ≡ count area all
unfolding all_marked
of_marks area earlier [] = refl
of_marks area earlier (f ∷ all) =
    count-append area (marked earlier f ∷ []) (all_marked (f ∷ earlier) all)
    ∙ omega (arith, of_mark area earlier f, of_marks area (f ∷ earlier) all, count-append area (f ∷ []) all)

of_region : (area x : List ℕ) → count area (region_findings x) ≡ length (region_digests x)
unfolding region_findings all_marked
of_region area x = of_marks area [] (walk_findings x) ∙ of_walk area x

of_range : (area image : List ℕ) (r : Range) → count area (range_findings image r) ≡ length (region_digests (bytes_in (entry_range r) image))
of_range area image r =
    count-append area (region_findings (bytes_in (entry_range r) image)) _
    ∙ omega (arith, of_region area (bytes_in (entry_range r) image), go (is_unaligned r))
  where
    go : (unaligned : Bool) → count area (only_if unaligned findings.UnalignedSize) ≡ 0
    go true = refl
    go false = refl

-- ---- the components of an image

-- as many digests as components
abbrev Matches : List ℕ → List ImageFinding → Type 0
Matches image found = length (image_digests image found) ≡ length (listed_components found)

matches_both : (image : List ℕ) (xs ys : List ImageFinding) → Matches image xs → Matches image ys → Matches image (xs ++ ys)
matches_both image xs ys first second =
    ap (λ (areas : List NumberedArea). length (digests_in image areas)) (flat_map-append region_area xs ys)
    ∙ ap length (flat_map-append _ (region_areas xs) (region_areas ys)) ∙ length-append (image_digests image xs) _
    ∙ omega (arith, first, second, length-append (listed_components xs) (listed_components ys), ap length (flat_map-append listed_of xs ys))

of_map : (image : List ℕ) (found : List MapFinding) → Matches image (map Map found)
of_map image [] = refl
of_map image (finding ∷ found) = of_map image found

of_anchor : (image : List ℕ) (found : List AnchorFinding) → Matches image (map OfAnchor found)
of_anchor image [] = refl
of_anchor image (finding ∷ found) = of_anchor image found

of_names : (image : List ℕ) (areas : List NumberedArea) (names : List (ℕ × List ℕ)) → Matches image (flat_map (missing_name areas) names)
of_names image areas [] = refl
of_names image areas (name ∷ names) = matches_both image (missing_name areas name) (flat_map (missing_name areas) names) (go (is_none (find (has_name name.1) areas))) (of_names image areas names)
  where
    go : (missing : Bool) → Matches image (only_if missing (NoArea name.0))
    go true = refl
    go false = refl

of_areas : (image : List ℕ) (anchor : Option Anchor) (wanted : NumberedArea → Bool) (left : ℕ) (areas : List NumberedArea) → Matches image (areas_findings image anchor wanted left areas)
of_areas image anchor wanted left [] = refl
of_areas image anchor wanted left (a ∷ areas) =
    matches_both image (area_finding image anchor wanted left a ∷ []) (areas_findings image anchor wanted (left_after left a) areas) (go (nat_le a.area.size left)) (of_areas image anchor wanted (left_after left a) areas)
  where
    go : (fits : Bool) → Matches image (cond fits (Region a (covering anchor a) (range_findings image (range_of a))) (NotChecked a (wanted a)) ∷ [])
    go false = refl
    go true =
        ap length (append-nil (region_digests (entry_bytes image a))) ∙ sym (of_range (area_name a) image (range_of a))
        ∙ sym (ap length (append-nil (flat_map (listed_in (area_name a)) (range_findings image (range_of a)))))

pub each_has_digests : (image : List ℕ) (names expected : List (List ℕ)) → Matches image (image_findings image names expected)
unfolding image_findings
each_has_digests image names expected =
    let regions = areas_findings image (image_anchor image) (expects names expected) (2 * length image) (areas_to_check image names expected) in
    let missing = flat_map (missing_name (image_areas image)) (enumerate_from 0 names) in
    let maps = map Map (map_findings image) in
    let anchors = map OfAnchor (anchor_findings image) in
    matches_both image ((maps ++ anchors) ++ regions) missing
    (matches_both image (maps ++ anchors) regions
    (matches_both image maps anchors (of_map image (map_findings image)) (of_anchor image (anchor_findings image)))
    (of_areas image (image_anchor image) (expects names expected) (2 * length image) (areas_to_check image names expected)))
    (of_names image (image_areas image) (enumerate_from 0 names))
