-- The areas of a flash map by name, with their numbers and without.
use Rattle.std.proofs.Common.{◌≡◌, ℕ, Bool, true, false, List, [], ◌∷◌, Option, None, Some, refl, sym}
use Rattle.std.specs.Prelude.{if◌then◌else◌}
use Rattle.std.specs.List.{find}
use Rattle.std.specs.Option.{option_map}
use Rattle.flash_format.specs.Flashmap.{is_area}
use Rattle.board_structures.specs.Descriptors.{area_name_of, area_range, difference_in, difference_of, range_of}
use Rattle.board_structures.specs.declared.descriptor.AreaDifference.{AreaDifference}
use Rattle.board_structures.specs.declared.descriptor.DescriptorRegion.{DescriptorRegion}
use Rattle.board_structures.specs.declared.descriptor.FlashRange.{FlashRange}
use Rattle.board_structures.specs.declared.descriptor.RegionTable.{RegionTable}
use Rattle.check_findings.specs.Areas.{has_name}
use Rattle.check_findings.specs.declared.areas.NumberedArea.{NumberedArea}
use Rattle.board_findings.specs.BoardFindings.{areas_in}

pub found_area : (name : List ℕ) (areas : List NumberedArea) → find (is_area name) (areas_in areas) ≡ option_map (λ (a : NumberedArea). a.area) (find (has_name name) areas)
found_area name [] = refl
found_area name (a ∷ areas) = go (is_area name a.area) (found_area name areas)
  where
    go : (same : Bool) → find (is_area name) (areas_in areas) ≡ option_map (λ (a : NumberedArea). a.area) (find (has_name name) areas) → (if same then Some a.area else find (is_area name) (areas_in areas)) ≡ option_map (λ (a : NumberedArea). a.area) (if same then Some a else find (has_name name) areas)
    go true others = refl
    go false others = others

-- a used region, whose name no area has
pub no_area : (region : DescriptorRegion) (table : RegionTable) (areas : List NumberedArea) (described : FlashRange) (name : List ℕ) (result : Option NumberedArea) → Some described ≡ range_of region table → name ≡ area_name_of region → result ≡ find (has_name name) areas
    → result ≡ None → None ≡ difference_in region table (areas_in areas)
no_area region table areas described name result used named first none = rw (sym used, sym named, found_area name areas, sym first, none) refl

-- a used region, whose name this area has first
pub has_area : (region : DescriptorRegion) (table : RegionTable) (areas : List NumberedArea) (described : FlashRange) (name : List ℕ) (a : NumberedArea) (d : Option AreaDifference) → Some described ≡ range_of region table → name ≡ area_name_of region → Some a ≡ find (has_name name) areas
    → d ≡ difference_of region described (area_range a.area) → d ≡ difference_in region table (areas_in areas)
has_area region table areas described name a d used named first is = rw (sym used, sym named, found_area name areas, sym first) is
