-- The checked areas in order, and all findings.
use lib.Chars.{codes}
use Rattle.std.specs.List.{enumerate_from, flat_map}
use Rattle.std.proofs.Common.{◌≡◌, ℕ, ◌+◌, ◌-◌, ◌*◌, ◌<◌, ◌≤◌, Bool, true, false, cond, All, IsTrue, List, [], ◌∷◌, ◌++◌, Option, length, get_or, drop, take, nat_le, refl, sym, arith, add-one, append_assoc, append-nil, drop-cons, length-append}
use Rattle.std.specs.Prelude.{filter, map}
use Rattle.std.proofs.lemmas.Bool.{leb-true}
use Rattle.std.proofs.lemmas.Grind.{flat_map-append}
use Rattle.std.proofs.lemmas.List.Elements.{All-append, All-cons, All-nil, All-push, filter_more}
use Rattle.std.proofs.lemmas.List.Sums.{sum_by_push}
use Rattle.std.proofs.lemmas.Grind.{common_steps}
use Rattle.check_findings.specs.declared.map.finding.MapFinding.{MapFinding}
use Rattle.check_findings.specs.declared.areas.NumberedArea.{NumberedArea}
use Rattle.check_findings.specs.MapFindings.{map_findings}
use Rattle.check_findings.specs.Areas.{area_end, image_areas}
use Rattle.check_findings.specs.declared.image.finding.ImageFinding.{ImageFinding}
use Rattle.check_findings.specs.declared.image.finding.ImageFinding.TheVariants.{Anchor as OfAnchor, Map}
use Rattle.check_findings.specs.declared.anchor.finding.AnchorFinding.{AnchorFinding}
use Rattle.check_findings.specs.Anchors.{anchor_findings, image_anchor}
use Rattle.cbfs_anchor.specs.declared.anchor.Anchor.{Anchor}
use Rattle.check_findings.specs.ImageFindings.{area_finding, areas_findings, has_one_of, image_findings, left_after, missing_name, wanted_areas}
use Rattle.check_findings.specs.ImageFindings.{AreChecked, region_area, region_areas}

pub filtered : (p : NumberedArea → Bool) (xs : List NumberedArea) (i : ℕ) (d : NumberedArea) (before after : List NumberedArea) → i < length xs → before ≡ filter p (take i xs) → after ≡ before ++ cond (p (get_or xs i d)) (get_or xs i d ∷ []) [] → after ≡ filter p (take (i + 1) xs)
filtered p xs i d before after lt so_far is = rw (filter_more p xs i d lt, sym so_far) is

-- another area is wanted, or not
pub wanted_more : (P : NumberedArea → Type 0) (wanted : Bool) (a : NumberedArea) (before after : List NumberedArea) → after ≡ before ++ cond wanted (a ∷ []) [] → All P before → (IsTrue wanted → P a) → All P after × (length after ≤ length before + 1)
wanted_more P true a before after is each inside = rw is (All-push P before a each (inside refl), omega (arith, length-append before (a ∷ [])))
wanted_more P false a before after is each inside = rw (is, append-nil before) (each, omega arith)

-- another area is checked, or not
pub checked_more : (n i left : ℕ) (a : NumberedArea) (f : ImageFinding) (findings : List ImageFinding) → area_end a.area ≤ n → region_area f ≡ cond (nat_le a.area.size left) (a ∷ []) [] → AreChecked n i left (region_areas findings)
    → AreChecked n (i + 1) (left_after left a) (region_areas (findings ++ f ∷ []))
checked_more n i left a f findings fits is had = rw (flat_map-append region_area findings (f ∷ []), append-nil (region_area f), is) (go (nat_le a.area.size left) refl)
  where
    areas : List NumberedArea
    areas = region_areas findings

    go : (b : Bool) → nat_le a.area.size left ≡ b → AreChecked n (i + 1) (cond b (left - a.area.size) left) (areas ++ cond b (a ∷ []) [])
    go true le = record {
      count = omega (arith, had.count, length-append areas (a ∷ []));
      inside = All-append (λ b. area_end b.area ≤ n) areas (a ∷ []) had.inside (All-cons (λ b. area_end b.area ≤ n) a [] fits (All-nil (λ b. area_end b.area ≤ n)));
      total = omega (arith, had.total, sum_by_push (λ (b : NumberedArea). b.area.size) areas a, leb-true a.area.size left le);
    }
    go false gt = rw (append-nil areas) (record { count = omega (arith, had.count); inside = had.inside; total = had.total })

pub found_more : (image : List ℕ) (anchor : Option Anchor) (expects : NumberedArea → Bool) (left i : ℕ) (areas : List NumberedArea) (d : NumberedArea) (f : ImageFinding) (before after all : List ImageFinding) → i < length areas → after ≡ before ++ f ∷ [] → f ≡ area_finding image anchor expects left (get_or areas i d)
    → before ++ areas_findings image anchor expects left (drop i areas) ≡ all → after ++ areas_findings image anchor expects (left_after left (get_or areas i d)) (drop (i + 1) areas) ≡ all
found_more image anchor expects left i areas d f before after all lt pushed is so_far = grind (arith, common_steps, append_assoc, drop-cons areas i d lt, add-one i, pushed, is, so_far)

-- ---- the whole

pub no_map_areas : (found : List MapFinding) → region_areas (map Map found) ≡ []
no_map_areas [] = refl
no_map_areas (finding ∷ found) = no_map_areas found

no_anchor_areas : (found : List AnchorFinding) → region_areas (map OfAnchor found) ≡ []
no_anchor_areas [] = refl
no_anchor_areas (finding ∷ found) = no_anchor_areas found

-- the findings before those of the regions
abbrev pub head_findings : List MapFinding → List AnchorFinding → List ImageFinding
head_findings found anchors = map Map found ++ map OfAnchor anchors

pub no_head_areas : (found : List MapFinding) (anchors : List AnchorFinding) → region_areas (head_findings found anchors) ≡ []
no_head_areas found anchors = rw (flat_map-append region_area (map Map found) (map OfAnchor anchors), no_map_areas found, no_anchor_areas anchors) refl

pub no_name_areas : (areas : List NumberedArea) (names : List (ℕ × List ℕ)) → region_areas (flat_map (missing_name areas) names) ≡ []
no_name_areas areas [] = refl
no_name_areas areas (name ∷ names) = let later = no_name_areas areas names in grind (arith, common_steps, flat_map-append, later)

pub joined : (found : List MapFinding) (anchors : List AnchorFinding) (first second all : List ImageFinding) → first ≡ map Map found → second ≡ map OfAnchor anchors → all ≡ first ++ second → all ≡ head_findings found anchors
joined found anchors first second all is are pushed = rw (pushed, is, are) refl

-- the areas of all findings are the areas of the regions
pub regions_of : (found : List MapFinding) (anchors : List AnchorFinding) (areas : List NumberedArea) (names : List (List ℕ)) (first regions second all : List ImageFinding) → first ≡ head_findings found anchors → second ≡ first ++ regions → all ≡ second ++ flat_map (missing_name areas) (enumerate_from 0 names) → region_areas all ≡ region_areas regions
regions_of found anchors areas names first regions second all is pushed last =
    rw (last, flat_map-append region_area second (flat_map (missing_name areas) (enumerate_from 0 names)), no_name_areas areas (enumerate_from 0 names), append-nil (region_areas second), pushed, flat_map-append region_area first regions, is, no_head_areas found anchors) refl

pub found_image : (image : List ℕ) (names expected : List (List ℕ)) (found : List MapFinding) (anchors : List AnchorFinding) (anchor : Option Anchor) (areas : List NumberedArea) (first regions second all : List ImageFinding) → first ≡ head_findings found anchors → second ≡ first ++ regions → all ≡ second ++ flat_map (missing_name areas) (enumerate_from 0 names)
    → found ≡ map_findings image → anchors ≡ anchor_findings image → anchor ≡ image_anchor image → areas ≡ image_areas image → regions ≡ areas_findings image anchor (has_one_of (names ++ codes "COREBOOT" ∷ expected)) (2 * length image) (wanted_areas image (has_one_of (names ++ codes "COREBOOT" ∷ expected)) areas) → all ≡ image_findings image names expected
unfolding image_findings
found_image image names expected found anchors anchor areas first regions second all is pushed last from_map from_anchor from_place from_areas from_wanted = rw (last, pushed, is, from_wanted, from_map, from_anchor, from_place, from_areas) refl
