-- The areas of a flash map, and the first area of each name.
use Rattle.std.specs.Prelude.{◌≡◌, ℕ, Bool, List, [], map, Option}
use Rattle.std.specs.List.{enumerate_from, find}
use Rattle.std.specs.Ordering.{nat_cmp}
use Rattle.std.specs.Cmp.Lexicographic.{slice_cmp}
use Rattle.std.specs.BTreeMap.{get_by}
use Rattle.std.specs.Option.{option_map_or}
use Rattle.flash_format.specs.Flashmap.{is_area}
pub use Rattle.flash_format.specs.Flashmap.{area_end}
use Rattle.flash_map.specs.declared.search.FoundMap.{FoundMap}
use Rattle.check_findings.specs.declared.areas.NumberedArea.{NumberedArea}
use Rattle.check_findings.specs.declared.names.AreaNames.{AreaNames}
use Rattle.flash_map.specs.Fmap.{areas_of, found_in}

-- the area has this name, up to the first NUL of its field
abbrev pub has_name : List ℕ → NumberedArea → Bool
has_name name a = is_area name a.area

-- the areas with their indices from 0
abbrev pub map_areas : List ℕ → FoundMap → List NumberedArea
map_areas image found =
    map (λ p. record { number = p.0; area = p.1 }) (enumerate_from 0 (areas_of image found))

-- the areas of the map, if any
unfoldable pub image_areas : List ℕ → List NumberedArea
image_areas image = option_map_or (map_areas image) (found_in image) []

-- the area that the table has for a name; `names.first` is a map from names to areas, whose keys
-- are ordered byte by byte
abbrev pub area_for : AreaNames → List ℕ → Option NumberedArea
area_for names name = get_by (λ k. slice_cmp nat_cmp name k.now) names.first

-- for every name, the table has the first area with this name, or none
abbrev pub HasFirstAreas : AreaNames → List NumberedArea → Type 0
HasFirstAreas names areas = (name : List ℕ) → area_for names name ≡ find (has_name name) areas
