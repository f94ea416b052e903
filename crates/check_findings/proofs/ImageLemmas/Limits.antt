-- The areas that are checked, within two image lengths.
use Rattle.std.specs.List.{enumerate_from, flat_map, find}
use Rattle.std.proofs.Common.{◌≡◌, ◌∙◌, ℕ, ◌+◌, ◌-◌, ◌*◌, ◌<◌, ◌≤◌, ◌⊎◌, inl, inr, zero, suc, Bool, true, false, cond, Contains, List, [], ◌∷◌, ◌++◌, Option, length, nat_le, refl, ap, arith}
use Rattle.std.specs.Prelude.{map, is_none}
use Rattle.std.proofs.lemmas.Bool.{le-leb, leb-true, leb-false}
use Rattle.std.proofs.lemmas.List.Elements.{Contains-append_cases}
use Rattle.std.proofs.lemmas.List.Sums.{sum_by-cons}
use Rattle.cbfs_anchor.specs.declared.anchor.Anchor.{Anchor}
use Rattle.check_findings.specs.declared.anchor.finding.AnchorFinding.{AnchorFinding}
use Rattle.check_findings.specs.declared.areas.NumberedArea.{NumberedArea}
use Rattle.check_findings.specs.declared.image.finding.ImageFinding.{ImageFinding}
use Rattle.check_findings.specs.declared.image.finding.ImageFinding.TheVariants.{Anchor as OfAnchor, Map, NoArea, NotChecked, Region}
use Rattle.check_findings.specs.declared.map.finding.MapFinding.{MapFinding}
use Rattle.check_findings.specs.Anchors.{anchor_findings, image_anchor}
use Rattle.check_findings.specs.Areas.{has_name, image_areas}
use Rattle.check_findings.specs.ImageFindings.{areas_findings, areas_to_check, covering, expects, image_findings, left_after, missing_name, range_of, region_areas, sum_sizes}
use Rattle.check_findings.specs.Lists.{only_if}
use Rattle.check_findings.specs.MapFindings.{map_findings}
use Rattle.check_findings.specs.RegionFindings.{range_findings}
use Rattle.check_findings.proofs.ImageLemmas.Regions.{head_findings, regions_of}

sum_sizes-cons : (a : NumberedArea) (areas : List NumberedArea) → sum_sizes (a ∷ areas) ≡ a.area.size + sum_sizes areas
sum_sizes-cons a areas = sum_by-cons (λ (b : NumberedArea). b.area.size) a areas

module _ (image : List ℕ) (anchor : Option Anchor) (named : NumberedArea → Bool) where
  abbrev found : ℕ → List NumberedArea → List ImageFinding
  found left areas = areas_findings image anchor named left areas

  all_checked : (left : ℕ) (areas : List NumberedArea) → sum_sizes areas ≤ left → region_areas (found left areas) ≡ areas
  all_checked left [] enough = refl
  all_checked left (a ∷ areas) enough =
      let total = sum_sizes-cons a areas in
      let fits : nat_le a.area.size left ≡ true = le-leb a.area.size left (omega (arith, total, enough)) in
      let later = all_checked (left - a.area.size) areas (omega (arith, total, enough)) in
      rw fits (ap (λ l. a ∷ l) later)

  -- of an area, by whether it fits
  abbrev first : NumberedArea → Bool → ImageFinding
  first b fits = cond fits (Region b (covering anchor b) (range_findings image (range_of b))) (NotChecked b (named b))

  -- more than the remaining bytes
  abbrev IsOver : ℕ → List NumberedArea → NumberedArea → Type 0
  IsOver left areas a = left < sum_sizes areas + a.area.size

  omitted : (left : ℕ) (areas : List NumberedArea) (a : NumberedArea) (is : Bool) → Contains (found left areas) (NotChecked a is) → IsOver left (region_areas (found left areas)) a
  omitted left [] a is (k, lt, at) = absurd (omega (arith, lt))
  omitted left (b ∷ areas) a is there = go (nat_le b.area.size left) refl (omitted (left_after left b) areas a is) there
    where
      go : (fits : Bool) → nat_le b.area.size left ≡ fits → let rest = found (cond fits (left - b.area.size) left) areas in
          (Contains rest (NotChecked a is) → IsOver (cond fits (left - b.area.size) left) (region_areas rest) a) → Contains (first b fits ∷ rest) (NotChecked a is) → IsOver left (region_areas (first b fits ∷ rest)) a
      go true fits later (zero, lt, at) = absurd cc
      go true fits later (suc k, lt, at) =
          let le = leb-true b.area.size left fits in
          let total = sum_sizes-cons b (region_areas (found (left - b.area.size) areas)) in
          let over = later (k, omega (arith, lt), at) in
          omega (arith, le, total, over)
      go false over later (zero, lt, at) =
          let same : b ≡ a = cc in
          let gt = leb-false b.area.size left over in
          omega (arith, gt, ap (λ (c : NumberedArea). c.area.size) same)
      go false over later (suc k, lt, at) = later (k, omega (arith, lt), at)

-- ---- the whole

not_of_map : (found : List MapFinding) (a : NumberedArea) (is : Bool) → Contains (map Map found) (NotChecked a is) → ⊥
not_of_map [] a is (k, lt, at) = absurd (omega (arith, lt))
not_of_map (finding ∷ found) a is (zero, lt, at) = absurd cc
not_of_map (finding ∷ found) a is (suc k, lt, at) = not_of_map found a is (k, omega (arith, lt), at)

not_of_anchor : (found : List AnchorFinding) (a : NumberedArea) (is : Bool) → Contains (map OfAnchor found) (NotChecked a is) → ⊥
not_of_anchor [] a is (k, lt, at) = absurd (omega (arith, lt))
not_of_anchor (finding ∷ found) a is (zero, lt, at) = absurd cc
not_of_anchor (finding ∷ found) a is (suc k, lt, at) = not_of_anchor found a is (k, omega (arith, lt), at)

not_of_name : (areas : List NumberedArea) (names : List (ℕ × List ℕ)) (a : NumberedArea) (is : Bool) → Contains (flat_map (missing_name areas) names) (NotChecked a is) → ⊥
not_of_name areas [] a is (k, lt, at) = absurd (omega (arith, lt))
not_of_name areas (name ∷ names) a is there = go (not_of_name areas names a is) (is_none (find (has_name name.1) areas)) (Contains-append_cases (missing_name areas name) (flat_map (missing_name areas) names) (NotChecked a is) there)
  where
    go : (Contains (flat_map (missing_name areas) names) (NotChecked a is) → ⊥) → (missing : Bool)
        → Contains (only_if missing (NoArea name.0)) (NotChecked a is) ⊎ Contains (flat_map (missing_name areas) names) (NotChecked a is) → ⊥
    go none true (inl (zero, lt, at)) = absurd cc
    go none true (inl (suc k, lt, at)) = absurd (omega (arith, lt))
    go none false (inl (k, lt, at)) = absurd (omega (arith, lt))
    go none missing (inr later) = none later

module _ (image : List ℕ) (names expected : List (List ℕ)) where
  abbrev regions : List ImageFinding
  regions = areas_findings image (image_anchor image) (expects names expected) (2 * length image) (areas_to_check image names expected)

  abbrev missing : List ImageFinding
  missing = flat_map (missing_name (image_areas image)) (enumerate_from 0 names)

  abbrev head : List ImageFinding
  head = head_findings (map_findings image) (anchor_findings image)

  of_regions : region_areas (image_findings image names expected) ≡ region_areas regions
  unfolding image_findings
  of_regions = regions_of (map_findings image) (anchor_findings image) (image_areas image) names head regions _ _ refl refl refl

  among_regions : (a : NumberedArea) (is : Bool) → Contains (image_findings image names expected) (NotChecked a is) → Contains regions (NotChecked a is)
  unfolding image_findings
  among_regions a is there = by_end (Contains-append_cases (head ++ regions) missing (NotChecked a is) there)
    where
      by_head : Contains (map Map (map_findings image)) (NotChecked a is) ⊎ Contains (map OfAnchor (anchor_findings image)) (NotChecked a is) → ⊥
      by_head (inl first) = not_of_map (map_findings image) a is first
      by_head (inr second) = not_of_anchor (anchor_findings image) a is second

      by_start : Contains head (NotChecked a is) ⊎ Contains regions (NotChecked a is) → Contains regions (NotChecked a is)
      by_start (inl first) = absurd (by_head (Contains-append_cases (map Map (map_findings image)) (map OfAnchor (anchor_findings image)) (NotChecked a is) first))
      by_start (inr among) = among

      by_end : Contains (head ++ regions) (NotChecked a is) ⊎ Contains missing (NotChecked a is) → Contains regions (NotChecked a is)
      by_end (inl first) = by_start (Contains-append_cases head regions (NotChecked a is) first)
      by_end (inr last) = absurd (not_of_name (image_areas image) (enumerate_from 0 names) a is last)

pub within_limit : (image : List ℕ) (names expected : List (List ℕ)) → sum_sizes (areas_to_check image names expected) ≤ 2 * length image
    → region_areas (image_findings image names expected) ≡ areas_to_check image names expected
within_limit image names expected enough =
    of_regions image names expected ∙ all_checked image (image_anchor image) (expects names expected) (2 * length image) (areas_to_check image names expected) enough

pub over_limit : (image : List ℕ) (names expected : List (List ℕ)) (a : NumberedArea) (is : Bool) → Contains (image_findings image names expected) (NotChecked a is)
    → 2 * length image < sum_sizes (region_areas (image_findings image names expected)) + a.area.size
over_limit image names expected a is there =
    rw (of_regions image names expected) (omitted image (image_anchor image) (expects names expected) (2 * length image) (areas_to_check image names expected) a is (among_regions image names expected a is there))
