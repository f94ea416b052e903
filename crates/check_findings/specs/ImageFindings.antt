-- Findings of an image. This project defines their order and the choice of regions.
use Rattle.std.specs.Prelude.{ℕ, ◌+◌, ◌-◌, ◌*◌, ◌≤◌, Bool, false, not, ◌&&◌, ◌||◌, All, List}
use Rattle.std.specs.Prelude.{Option, None, [], ◌∷◌, ◌++◌, filter, length, map, is_none, is_some, nat_le, nat_lt}
use Rattle.std.specs.Prelude.{◌==◌, if◌then◌else◌}
use Rattle.std.specs.List.{enumerate_from, find, flat_map, list_any, scan, sum_by}
use Rattle.std.specs.Option.{option_map_or}
use Rattle.std.specs.Borrow.{Bor}
use Rattle.std.specs.Ordering.{nat_cmp}
use Rattle.std.specs.Cmp.Lexicographic.{slice_cmp}
use Rattle.std.specs.BTreeMap.{get, get_by}
use lib.Chars.{codes}
use Rattle.check_findings.specs.Lists.{only_if}
use Rattle.flash_format.specs.Entry.{front}
use Rattle.flash_format.specs.Flashmap.{is_area, text_of}
use Rattle.flash_device.specs.Regions.{Range, bytes_in}
use Rattle.cbfs_anchor.specs.declared.anchor.Anchor.{Anchor}
use Rattle.check_findings.specs.Anchors.{anchor_findings, image_anchor}
use Rattle.check_findings.specs.declared.areas.NumberedArea.{NumberedArea}
use Rattle.check_findings.specs.MapFindings.{map_findings}
use Rattle.check_findings.specs.Areas.{area_end, has_name, image_areas}
use Rattle.check_findings.specs.RegionFindings.{entry_range, range_findings}
use Rattle.check_findings.specs.declared.image.finding.ImageFinding.{ImageFinding}
use Rattle.check_findings.specs.declared.image.finding.ImageFinding.TheVariants.{Map, Anchor as OfAnchor, Region}
use Rattle.check_findings.specs.declared.image.finding.ImageFinding.TheVariants.{NotChecked, NoArea}
use Rattle.check_findings.specs.declared.image.names.NameSet.{NameSet}
use Rattle.check_findings.specs.declared.image.starts.Starts.{Starts}

abbrev pub range_of : NumberedArea → Range
range_of a = record { start = a.area.offset; size = a.area.size }

abbrev pub bytes_of : List ℕ → NumberedArea → List ℕ
bytes_of image a = bytes_in (range_of a) image

-- the bytes of the area that entries can fill
abbrev pub entry_bytes : List ℕ → NumberedArea → List ℕ
entry_bytes image a = bytes_in (entry_range (range_of a)) image

abbrev pub names_in : List (Bor (List ℕ)) → List (List ℕ)
names_in names = map (λ n. n.now) names

-- the area has a name of the list
abbrev pub has_one_of : List (List ℕ) → NumberedArea → Bool
has_one_of names a = list_any (λ name. is_area name a.area) names

-- a smaller area with room for a header has the same offset, and therefore the same entry
abbrev pub has_smaller : List NumberedArea → NumberedArea → Bool
has_smaller areas a = list_any (λ (other : NumberedArea). other.area.offset == a.area.offset
    && (nat_le 24 other.area.size && nat_lt other.area.size a.area.size)) areas

-- the area lies inside the image, and is expected, or begins with an entry and has no smaller area
-- at the same offset
abbrev pub is_wanted : List ℕ → (NumberedArea → Bool) → (NumberedArea → Bool) → NumberedArea → Bool
is_wanted image expects has_smaller a = nat_le (area_end a.area) (length image)
    && (expects a || (not (has_smaller a) && is_some (front (bytes_of image a))))

abbrev pub wanted_areas : List ℕ → (NumberedArea → Bool) → List NumberedArea → List NumberedArea
wanted_areas image expects areas = filter (is_wanted image expects (has_smaller areas)) areas

-- the areas to check without expected names
abbrev pub cbfs_areas : List ℕ → List NumberedArea → List NumberedArea
cbfs_areas image areas = wanted_areas image (has_one_of []) areas

-- A firmware with CBFS verification loads components from COREBOOT and from the two slots of vboot.
-- The firmware checks the digest of each loaded component, also if no anchor has a digest of the
-- area's metadata.
abbrev pub is_loaded_from : NumberedArea → Bool
is_loaded_from a = has_name (codes "COREBOOT") a
    || (has_name (codes "FW_MAIN_A") a || has_name (codes "FW_MAIN_B") a)

-- the anchor, if its firmware loads components from the area
abbrev pub covering : Option Anchor → NumberedArea → Option Anchor
covering anchor a = if is_loaded_from a then anchor else None

-- an area of at most `left` bytes is checked
abbrev pub fits_in : ℕ → NumberedArea → Bool
fits_in left a = nat_le a.area.size left

-- of an area, with `left` bytes for checks
abbrev pub area_finding : List ℕ → Option Anchor → (NumberedArea → Bool) → ℕ → NumberedArea
    → ImageFinding
area_finding image anchor expects left a = if fits_in left a
    then Region a (covering anchor a) (range_findings image (range_of a))
    else NotChecked a (expects a)

-- the remaining bytes for checks after an area
abbrev pub left_after : ℕ → NumberedArea → ℕ
left_after left a = if fits_in left a then left - a.area.size else left

-- of the areas to check in order, with `left` bytes for checks
abbrev pub areas_findings : List ℕ → Option Anchor → (NumberedArea → Bool) → ℕ
    → List NumberedArea → List ImageFinding
areas_findings image anchor expects left areas =
    scan left_after (area_finding image anchor expects) left areas

-- of a name without an area, by its index
abbrev pub missing_name : List NumberedArea → ℕ × List ℕ → List ImageFinding
missing_name areas name = only_if (is_none (find (has_name name.1) areas)) (NoArea name.0)

-- an area with a name in `names` or `expected`, or the default region, is expected
abbrev pub expects : List (List ℕ) → List (List ℕ) → NumberedArea → Bool
expects names expected = has_one_of (names ++ codes "COREBOOT" ∷ expected)

-- the areas to check, by the names and the expected names of a check
abbrev pub areas_to_check : List ℕ → List (List ℕ) → List (List ℕ) → List NumberedArea
areas_to_check image names expected =
    wanted_areas image (expects names expected) (image_areas image)

-- of the map, of the anchor, of the areas to check, and of names without an area
unfoldable pub image_findings : List ℕ → List (List ℕ) → List (List ℕ) → List ImageFinding
image_findings image names expected =
    map Map (map_findings image)
    ++ map OfAnchor (anchor_findings image)
    ++ areas_findings image (image_anchor image) (expects names expected) (2 * length image)
    (areas_to_check image names expected)
    ++ flat_map (missing_name (image_areas image)) (enumerate_from 0 names)

-- ---- the checked areas

abbrev pub region_area : ImageFinding → List NumberedArea
region_area (Region a anchor findings) = a ∷ []
region_area _ = []

abbrev pub region_areas : List ImageFinding → List NumberedArea
region_areas findings = flat_map region_area findings

abbrev pub sum_sizes : List NumberedArea → ℕ
sum_sizes areas = sum_by (λ (a : NumberedArea). a.area.size) areas

-- at most `most` areas, inside an image of n bytes; they leave `left` of 2n bytes
pub record AreChecked (n most left : ℕ) (areas : List NumberedArea) : Type 0 where
  pub count : length areas ≤ most
  pub inside : All (λ a. area_end a.area ≤ n) areas
  pub total : sum_sizes areas + left ≤ 2 * n

-- ---- tables of names and offsets

-- the set has the area's name
abbrev pub is_named_in : NameSet → NumberedArea → Bool
is_named_in set a = is_some (get_by (λ k. slice_cmp nat_cmp (text_of a.area.name) k.now) set.names)

-- the table has a smaller size at the area's offset
abbrev pub knows_smaller : Starts → NumberedArea → Bool
knows_smaller s a =
    option_map_or (λ n. nat_lt n a.area.size) (get nat_cmp s.smallest a.area.offset) false
