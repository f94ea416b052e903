-- The first content of a name in the findings belongs to the component that a search finds.
use lib.Chars.{codes}
use Rattle.std.proofs.Common.{◌≡◌, ℕ, ◌+◌, Bool, true, false, cond, List, [], ◌∷◌, ◌++◌, length, Option, Some, None, Ok, refl, sym, ap, subst, ◌∙◌, append_assoc, append-nil, arith}
use Rattle.std.specs.Prelude.{◌*◌, nat_le, All}
use Rattle.std.proofs.lemmas.List.Elements.{All-head, All-tail, All-weaker, filter_map-append}
use Rattle.std.specs.List.{enumerate_from, filter_map, flat_map}
use Rattle.check_findings.specs.Lists.{only_if}
use Rattle.std.specs.Option.{option_map}
use Rattle.std.proofs.lemmas.Grind.{common_steps}
use Rattle.flash_format.specs.Cut.{cut}
use Rattle.flash_format.specs.Components.{Component, components_from, components}
use Rattle.cbfs_walk.specs.Search.{component_in, first_named}
use Rattle.cbfs_walk.specs.Shapes.{shape_fault}
use Rattle.cbfs_walk.specs.CellReadings.{place_after}
use Rattle.cbfs_walk.specs.declared.walk.WalkFault.{WalkFault}
use Rattle.cbfs_walk.specs.declared.walk.WalkFault.TheVariants as walk
use Rattle.check_findings.specs.RegionFindings.{cells_findings, component_content, content_named, count_findings, end_findings, first_content, marked, entry_counts, is_unaligned, range_findings, region_findings, shape_findings, walk_findings}
use Rattle.check_findings.proofs.RegionLemmas.PartNames.{all_marked}
use Rattle.flash_format.specs.Flashmap.{is_area}
use Rattle.check_findings.specs.Needs.{is_met, unmet, unmet_by_content}
use Rattle.check_findings.specs.declared.image.needs.Need.{Need}
use Rattle.check_findings.specs.declared.image.needs.NeedFinding.TheVariants.{Missing}
use Rattle.std.specs.Option.{option_map_or}
use Rattle.std.specs.Prelude.{IsOkAnd, IsSomeAnd}
use Rattle.std.specs.List.{find}
use Rattle.check_findings.specs.Areas.{has_name}
use Rattle.check_findings.specs.Anchors.{anchor_findings, image_anchor}
use Rattle.check_findings.specs.ImageFindings.{areas_findings, covering, entry_bytes, has_one_of, image_findings, left_after, missing_name, range_of, wanted_areas}
use Rattle.check_findings.specs.ImageFindings.{region_areas}
use Rattle.check_findings.specs.MapFindings.{map_findings}
use Rattle.check_findings.specs.Areas.{image_areas}
use Rattle.check_findings.specs.declared.areas.NumberedArea.{NumberedArea}
use Rattle.check_findings.specs.declared.image.finding.ImageFinding.{ImageFinding}
use Rattle.check_findings.specs.declared.image.finding.ImageFinding.TheVariants.{NotChecked, Region}
use Rattle.check_findings.specs.declared.image.needs.NeedFinding.TheVariants.{Missing}
use Rattle.check_findings.specs.declared.region.finding.Content.{Content}
use Rattle.check_findings.specs.declared.region.finding.RegionFinding.{RegionFinding}
use Rattle.check_findings.specs.declared.region.finding.RegionFinding.TheVariants.{Component as OfComponent, UnalignedSize}
use Rattle.check_findings.proofs.RegionLemmas.Parts.{Part, IsIn, cell_part, end_part, of_end}
use Rattle.check_findings.proofs.ImageLemmas.Regions.{head_findings, no_head_areas, no_name_areas, regions_of}

-- a search in the first checked area of the name finds the component at the position
abbrev IsMet : List ℕ → List NumberedArea → Need → Type 0
IsMet image areas need = IsSomeAnd (find (has_name need.area.now) areas)
    (λ a. IsOkAnd (component_in (entry_bytes image a) need.name.now) (λ found. IsSomeAnd found
    (λ c. is_met need.place (component_content c) a.area.size ≡ true)))

-- ---- a region

-- a finding without an entry has no content
no_content : (name : List ℕ) (part : Part) (f : RegionFinding) → (part ≡ cell_part → ⊥) → IsIn part f → content_named name f ≡ None
no_content name part (OfComponent at other shadowed content) elsewhere is = absurd (elsewhere (sym is))
no_content name part other elsewhere is = refl

none_among : (name : List ℕ) (l rest : List RegionFinding) → All (λ (f : RegionFinding). content_named name f ≡ None) l → first_content name (l ++ rest) ≡ first_content name rest
none_among name [] rest none = refl
none_among name (f ∷ l) rest none = let here = All-head (λ (g : RegionFinding). content_named name g ≡ None) f l none in rw here (none_among name l rest (All-tail (λ (g : RegionFinding). content_named name g ≡ None) f l none))

-- the first content is the content of the first component, in order
of_cells : (name : List ℕ) (at : ℕ) (cells : List (List ℕ)) (last : List RegionFinding) → first_content name last ≡ None
    → first_content name (cells_findings at cells ++ last) ≡ option_map component_content (first_named name (components_from at cells))
unfolding cells_findings components_from
of_cells name at [] last none = none
of_cells name at (x ∷ cells) last none = let later = of_cells name (at + length x) cells last none in grind (arith, common_steps, later)

-- marks change no content
of_mark : (name : List ℕ) (earlier : List RegionFinding) (f : RegionFinding) → content_named name (marked earlier f) ≡ content_named name f
of_mark name earlier (OfComponent at other is content) = refl
of_mark name earlier other = refl

of_marks : (name : List ℕ) (earlier all : List RegionFinding) → first_content name (all_marked earlier all) ≡ first_content name all
unfolding all_marked
of_marks name earlier [] = refl
of_marks name earlier (f ∷ all) = grind (arith, common_steps, of_mark name earlier f, of_marks name (f ∷ earlier) all)

-- a search finds the name with this content
abbrev HasContent : List ℕ → List ℕ → Content → Type 0
HasContent x name content = (c : Component) × (component_in x name ≡ Ok (Some c)) × (component_content c ≡ content)

-- a content of the name belongs to the component that a search finds
has_content : (x name : List ℕ) (content : Content) → first_content name (region_findings x) ≡ Some content → HasContent x name content
unfolding all_marked region_findings walk_findings component_in
has_content x name content is = go (shape_fault x) refl (sym (of_marks name [] (walk_findings x)) ∙ is)
  where
    cells : List (List ℕ)
    cells = (cut x).cells

    ended : List RegionFinding
    ended = end_findings x (place_after 0 cells) (cut x).end

    -- the findings after the entries have no content
    none : first_content name (ended ++ count_findings (entry_counts (length x) cells)) ≡ None
    none = none_among name ended _ (All-weaker (IsIn end_part) (λ f. content_named name f ≡ None) (λ f. no_content name end_part f (λ e. cc)) ended (of_end x (place_after 0 cells) (cut x).end))

    listed : (o : Option Component) → option_map component_content o ≡ Some content → first_named name (components x) ≡ o → shape_fault x ≡ None → HasContent x name content
    listed None e here good = absurd cc
    listed (Some c) e here good = (c, rw (good, here) refl, cc)

    go : (o : Option WalkFault) → shape_fault x ≡ o → first_content name (option_map_or shape_findings o (cells_findings 0 cells ++ (ended ++ count_findings (entry_counts (length x) cells)))) ≡ Some content → HasContent x name content
    go (Some walk.RegionShape) bad e = absurd cc
    go (Some other) bad e = absurd cc
    go None good e = listed (first_named name (components x)) (sym (of_cells name 0 cells _ none) ∙ e) refl good

no_size : (name : List ℕ) (unaligned : Bool) → filter_map (content_named name) (only_if unaligned UnalignedSize) ≡ []
no_size name true = refl
no_size name false = refl

-- the finding of the size has no content
entry_contents : (name : List ℕ) (entries : List RegionFinding) (unaligned : Bool)
    → first_content name (entries ++ only_if unaligned UnalignedSize) ≡ first_content name entries
entry_contents name entries unaligned = rw (filter_map-append (content_named name) entries (only_if unaligned UnalignedSize), no_size name unaligned, append-nil (filter_map (content_named name) entries)) refl

-- ---- an image

module _ (image : List ℕ) (need : Need) where
  met_here : (a : NumberedArea) (areas : List NumberedArea) (o : Option Content) → is_area need.area.now a.area ≡ true
      → first_content need.name.now (range_findings image (range_of a)) ≡ o → option_map_or (unmet_by_content need.place a.area.size) o (Some Missing) ≡ None → IsMet image (a ∷ areas) need
  met_here a areas None named first none = absurd cc
  met_here a areas (Some content) named first none =
      let entries = entry_contents need.name.now (region_findings (entry_bytes image a)) (is_unaligned (range_of a)) in
      let has = has_content (entry_bytes image a) need.name.now content (sym entries ∙ first) in
      rw (named, has.1, has.2) (grind (arith, common_steps, none))

  -- the first area with the name meets the need
  met_in : (expects : NumberedArea → Bool) (last : List ImageFinding) → unmet last need ≡ Some Missing → (left : ℕ) (areas : List NumberedArea)
      → unmet (areas_findings image (image_anchor image) expects left areas ++ last) need ≡ None → IsMet image (region_areas (areas_findings image (image_anchor image) expects left areas)) need
  met_in expects last missing left [] none = absurd cc
  met_in expects last missing left (a ∷ areas) none = go (nat_le a.area.size left) (is_area need.area.now a.area) refl none (met_in expects last missing (left_after left a) areas)
    where
      rest : List ImageFinding
      rest = areas_findings image (image_anchor image) expects (left_after left a) areas

      go : (checked named : Bool) → is_area need.area.now a.area ≡ named → unmet (cond checked (Region a (covering (image_anchor image) a) (range_findings image (range_of a))) (NotChecked a (expects a)) ∷ (rest ++ last)) need ≡ None
          → (unmet (rest ++ last) need ≡ None → IsMet image (region_areas rest) need) → IsMet image (region_areas (cond checked (Region a (covering (image_anchor image) a) (range_findings image (range_of a))) (NotChecked a (expects a)) ∷ rest)) need
      go false named is e later = later e
      go true true is e later = met_here a (region_areas rest) (first_content need.name.now (range_findings image (range_of a))) is refl (rw is at e)
      go true false is e later = rw is (later (rw is at e))

-- findings without a region meet no need
passed : (l rest : List ImageFinding) (need : Need) → region_areas l ≡ [] → unmet (l ++ rest) need ≡ unmet rest need
passed [] rest need none = refl
passed (Region a anchor findings ∷ l) rest need none = absurd cc
passed (other ∷ l) rest need none = passed l rest need none

pub needs_met : (image : List ℕ) (names expected : List (List ℕ)) (need : Need) → let all = image_findings image names expected in unmet all need ≡ None → IsMet image (region_areas all) need
unfolding image_findings
needs_met image names expected need none =
    let all = has_one_of (names ++ codes "COREBOOT" ∷ expected) in
    let areas = image_areas image in
    let last = flat_map (missing_name areas) (enumerate_from 0 names) in
    let regions = areas_findings image (image_anchor image) all (2 * length image) (wanted_areas image all areas) in
    let found = head_findings (map_findings image) (anchor_findings image) in
    subst (λ l. IsMet image l need) (sym (regions_of (map_findings image) (anchor_findings image) areas names _ regions _ _ refl refl refl))
    (met_in image need all last (ap (λ l. unmet l need) (sym (append-nil last)) ∙ passed last [] need (no_name_areas areas (enumerate_from 0 names))) (2 * length image) (wanted_areas image all areas)
    (sym (ap (λ l. unmet l need) (append_assoc found regions last) ∙ passed found (regions ++ last) need (no_head_areas (map_findings image) (anchor_findings image))) ∙ none))
