-- Images without bad findings.
use lib.Chars.{codes}
use Rattle.std.proofs.lemmas.List.Folds.{list_any-append}
use Rattle.check_findings.specs.declared.image.finding.ImageFinding.TheVariants.{Region}
use Rattle.std.proofs.Common.{arith, ◌≡◌, ◌∙◌, ℕ, ◌+◌, ◌≤◌, Bool, true, false, ◌||◌, cond, All, Contains, List, [], ◌∷◌, ◌++◌, ◌*◌, length, nat_le, Option, Some, None, Ok, refl, sym, ap, subst}
use Rattle.std.specs.Prelude.{filter, map}
use Rattle.std.specs.List.{find, list_any}
use Rattle.std.specs.Option.{option_map, option_map_or}
use Rattle.std.proofs.lemmas.Bool.{and_parts, le-ltb, leb-true, or_parts}
use Rattle.std.proofs.lemmas.List.Elements.{All-nil, All-cons, All-head, All-tail, All-filter, All-weaker, All-contains_itself, filter_passes}
use Rattle.std.proofs.lemmas.Grind.{common_steps}
use Rattle.flash_format.specs.declared.flashmap.Area.{Area}
use Rattle.flash_format.specs.Flashmap.{is_area, text_of}
use Rattle.flash_map.specs.declared.search.FoundMap.{FoundMap}
use Rattle.flash_map.specs.Fmap.{areas_of, found_from, found_in}
use Rattle.flash_map.specs.Regions.{region_of}
use Rattle.check_findings.proofs.MapAreas.{numbered_from}
use Rattle.check_findings.specs.declared.map.finding.MapFinding.{MapFinding}
use Rattle.check_findings.specs.declared.map.finding.MapFinding.TheVariants as of_map
use Rattle.check_findings.specs.declared.areas.NumberedArea.{NumberedArea}
use Rattle.check_findings.specs.MapFindings.{findings_of, map_findings}
use Rattle.check_findings.specs.Areas.{area_end, has_name, image_areas, map_areas}
use Rattle.check_findings.proofs.MapLemmas.Sound.{named, none_of}
use Rattle.check_findings.specs.declared.image.finding.ImageFinding.{ImageFinding}
use Rattle.check_findings.specs.declared.image.finding.ImageFinding.TheVariants.{Anchor as OfAnchor, Map, NotChecked}
use Rattle.check_findings.specs.declared.anchor.finding.AnchorFinding.{AnchorFinding}
use Rattle.check_findings.specs.RegionFindings.{range_findings, region_findings}
use Rattle.check_findings.specs.ImageFindings.{areas_findings, has_smaller, covering, entry_bytes, has_one_of, image_findings, is_wanted, left_after, range_of}
use Rattle.check_findings.specs.Laws.{InFitImages, IsFit}
use Rattle.check_findings.specs.ImageFindings.{region_areas}
use Rattle.check_findings.specs.Verdicts.{is_bad, is_bad_anchor, is_bad_map, is_bad_region, rules_of}
use Rattle.check_findings.proofs.ImageLemmas.Fit.{fit_region}
use Rattle.check_findings.proofs.ImageLemmas.Regions.{head_findings, regions_of}
use Rattle.check_findings.specs.Anchors.{anchor_findings, image_anchor}

-- ---- a name finds its first area

find_area : (name : List ℕ) (k : ℕ) (areas : List Area) → option_map (λ (a : NumberedArea). a.area) (find (has_name name) (numbered_from k areas)) ≡ find (is_area name) areas
find_area name k [] = refl
find_area name k (area ∷ areas) = grind (arith, common_steps, find_area name (k + 1) areas)

reached : (image name : List ℕ) (map : FoundMap) (a : NumberedArea) → found_in image ≡ Some map → find (has_name name) (map_areas image map) ≡ Some a → area_end a.area ≤ length image → region_of image name ≡ Ok (range_of a)
unfolding region_of
reached image name map a found is fits =
    let area = sym (find_area name 0 (areas_of image map)) ∙ ap (option_map (λ (b : NumberedArea). b.area)) is in
    rw (found, area, le-ltb (length image) (area_end a.area) fits) refl

-- the name of an area inside the image finds the area
IsReached : List ℕ → NumberedArea → Type 0
IsReached image a = area_end a.area ≤ length image → region_of image (text_of a.area.name) ≡ Ok (range_of a)

fit_areas : (image : List ℕ) (o : Option FoundMap) → found_in image ≡ o
    → list_any is_bad_map (option_map_or (λ (map : FoundMap). findings_of (length image) map (found_from (map.at + 1) image) (map_areas image map)) o (of_map.NoMap ∷ [])) ≡ false → All (IsReached image) (option_map_or (map_areas image) o [])
unfolding IsReached
fit_areas image None found fit = All-nil (IsReached image)
fit_areas image (Some map) found fit =
    let areas = map_areas image map in
    All-weaker (Contains areas) (IsReached image)
    (λ a there fits. reached image (text_of a.area.name) map a found (named is_bad_map _ a (λ first. refl) (grind (arith, common_steps, list_any-append, fit)) there) fits)
    areas (All-contains_itself areas)

-- ---- checked areas

-- without bad findings, the checked areas are fit
module _ (needs : Bool) (image : List ℕ) (expects : NumberedArea → Bool) where
  fit_areas_of : (left : ℕ) (areas : List NumberedArea) → All (λ (a : NumberedArea). region_of image (text_of a.area.name) ≡ Ok (range_of a)) areas
      → list_any (is_bad needs) (areas_findings image (image_anchor image) expects left areas) ≡ false → All (IsFit image) (region_areas (areas_findings image (image_anchor image) expects left areas))
  fit_areas_of left [] each fit = All-nil (IsFit image)
  fit_areas_of left (a ∷ areas) each fit =
      let Is : NumberedArea → Type 0 = λ b. region_of image (text_of b.area.name) ≡ Ok (range_of b) in
      go (nat_le a.area.size left) (All-head Is a areas each) fit (fit_areas_of (left_after left a) areas (All-tail Is a areas each))
    where
      rest : List ImageFinding
      rest = areas_findings image (image_anchor image) expects (left_after left a) areas

      go : (checked : Bool) → region_of image (text_of a.area.name) ≡ Ok (range_of a) → list_any (is_bad needs) (cond checked (Region a (covering (image_anchor image) a) (range_findings image (range_of a))) (NotChecked a (expects a)) ∷ rest) ≡ false
          → (list_any (is_bad needs) rest ≡ false → All (IsFit image) (region_areas rest)) → All (IsFit image) (region_areas (cond checked (Region a (covering (image_anchor image) a) (range_findings image (range_of a))) (NotChecked a (expects a)) ∷ rest))
      go false is fit later = later (or_parts (expects a) _ fit).1
      go true is fit later =
          let x = entry_bytes image a in
          let bad = is_bad_region (rules_of needs (covering (image_anchor image) a)) in
          let good = or_parts (list_any bad (range_findings image (range_of a))) _ fit in
          let entries = none_of bad (region_findings x) _ good.0 in
          All-cons (IsFit image) a (region_areas rest) (is, fit_region needs (covering (image_anchor image) a) x entries.0) (later good.1)

-- ---- the image

maps_bad : (needs : Bool) (all : List MapFinding) → list_any (is_bad needs) (map Map all) ≡ list_any is_bad_map all
maps_bad needs [] = refl
maps_bad needs (finding ∷ all) = ap (λ b. is_bad_map finding || b) (maps_bad needs all)

pub fit_image : InFitImages IsFit
unfolding image_findings image_areas map_findings IsReached
fit_image needs image names expected fit =
    let all = has_one_of (names ++ codes "COREBOOT" ∷ expected) in
    let areas = image_areas image in
    let wanted = is_wanted image all (has_smaller areas) in
    let regions = areas_findings image (image_anchor image) all (2 * length image) (filter wanted areas) in
    let head = head_findings (map_findings image) (anchor_findings image) in
    let parts = none_of (is_bad needs) (head ++ regions) _ fit in
    let both = none_of (is_bad needs) head regions parts.0 in
    let first = none_of (is_bad needs) (map Map (map_findings image)) _ both.0 in
    let each = All-filter wanted (IsReached image) areas (fit_areas image (found_in image) refl (sym (maps_bad needs (map_findings image)) ∙ first.0)) in
    let reach : All (λ (a : NumberedArea). region_of image (text_of a.area.name) ≡ Ok (range_of a)) (filter wanted areas) = λ k d lt. each k d lt (leb-true _ (length image) (and_parts _ _ (filter_passes wanted areas k d lt)).0) in
    subst (All (IsFit image)) (sym (regions_of (map_findings image) (anchor_findings image) areas names _ regions _ _ refl refl refl))
    (fit_areas_of needs image all (2 * length image) (filter wanted areas) reach both.1)

-- ---- the anchor

anchors_bad : (needs : Bool) (all : List AnchorFinding) → list_any (is_bad needs) (map OfAnchor all) ≡ list_any is_bad_anchor all
anchors_bad needs [] = refl
anchors_bad needs (finding ∷ all) = ap (λ b. is_bad_anchor finding || b) (anchors_bad needs all)

pub fit_anchor : (needs : Bool) (image : List ℕ) (names expected : List (List ℕ)) → list_any (is_bad needs) (image_findings image names expected) ≡ false
    → list_any is_bad_anchor (anchor_findings image) ≡ false
unfolding image_findings
fit_anchor needs image names expected fit =
    let all = has_one_of (names ++ codes "COREBOOT" ∷ expected) in
    let regions = areas_findings image (image_anchor image) all (2 * length image) (filter (is_wanted image all (has_smaller (image_areas image))) (image_areas image)) in
    let head = head_findings (map_findings image) (anchor_findings image) in
    let parts = none_of (is_bad needs) (head ++ regions) _ fit in
    let both = none_of (is_bad needs) head regions parts.0 in
    sym (anchors_bad needs (anchor_findings image)) ∙ (none_of (is_bad needs) (map Map (map_findings image)) _ both.0).1
