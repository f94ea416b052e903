-- Findings of a flash map. This project defines their choice and order.
use Rattle.std.specs.Prelude.{ℕ, ◌+◌, Bool, false, not, ◌&&◌, ◌||◌, List, [], ◌∷◌, ◌++◌, length}
use Rattle.std.specs.Prelude.{nat_lt, nat_le, Option, ◌==◌, if◌then◌else◌}
use Rattle.std.specs.Prelude.{option_map}
use Rattle.std.specs.List.{find, flat_map}
use Rattle.std.specs.Option.{option_map_or, option_to_list}
use Rattle.std.specs.Str.{is_utf8}
use lib.Chars.{codes}
use Rattle.flash_format.specs.declared.flashmap.Area.{Area}
use Rattle.flash_format.specs.Flashmap.{map_len, text_of}
use Rattle.flash_map.specs.declared.search.FoundMap.{FoundMap}
use Rattle.check_findings.specs.Areas.{area_end, has_name, map_areas}
use Rattle.flash_map.specs.Fmap.{found_from, found_in}
use Rattle.check_findings.specs.declared.areas.NumberedArea.{NumberedArea}
use Rattle.check_findings.specs.Lists.{only_if}
use Rattle.check_findings.specs.declared.map.finding.MapFinding.{MapFinding}
use Rattle.check_findings.specs.declared.map.finding.MapFinding.TheVariants.{AreaEmpty}
use Rattle.check_findings.specs.declared.map.finding.MapFinding.TheVariants.{AreaNameNotText}
use Rattle.check_findings.specs.declared.map.finding.MapFinding.TheVariants.{AreaOutside, Map}
use Rattle.check_findings.specs.declared.map.finding.MapFinding.TheVariants.{MapAreaMisses, NoMap}
use Rattle.check_findings.specs.declared.map.finding.MapFinding.TheVariants.{OtherMap, OtherSize}
use Rattle.check_findings.specs.declared.map.finding.MapFinding.TheVariants.{Overlap, SameName}
use Rattle.check_findings.specs.declared.map.finding.MapFinding.TheVariants.{TooManyAreas}

-- of a single area, in an image of n bytes
abbrev pub area_findings : ℕ → NumberedArea → List MapFinding
area_findings n a =
    only_if (nat_lt n (area_end a.area)) (AreaOutside a) ++ only_if (a.area.size == 0) (AreaEmpty a)
    ++ only_if (not (is_utf8 (text_of a.area.name))) (AreaNameNotText a)

-- the first area with this area's name
abbrev pub namesake : NumberedArea → List NumberedArea → Option NumberedArea
namesake a areas = find (has_name (text_of a.area.name)) areas

-- of an area in `all`, if it isn't the first area of its name
abbrev pub name_findings : List NumberedArea → NumberedArea → List MapFinding
name_findings all a =
    option_map_or (λ b. only_if (nat_lt b.number a.number) (SameName a b)) (namesake a all) []

-- area `a` begins before area `b` and ends inside it
abbrev pub ends_inside : Area → Area → Bool
ends_inside a b =
    nat_lt a.offset b.offset && (nat_lt b.offset (area_end a) && nat_lt (area_end a) (area_end b))

-- the areas overlap, and neither contains the other
abbrev pub overlap : NumberedArea → NumberedArea → Bool
overlap a b = ends_inside a.area b.area || ends_inside b.area a.area

-- the findings of each area with an overlap
abbrev pub overlap_findings : List NumberedArea → List MapFinding
overlap_findings areas = if nat_lt 4096 (length areas) then TooManyAreas ∷ []
    else flat_map (λ a. option_to_list (option_map (Overlap a) (find (overlap a) areas))) areas

-- the area begins with the map; coreboot's tools look for the map at the offset of the area FMAP
abbrev pub begins_with_map : FoundMap → NumberedArea → Bool
begins_with_map m a = a.area.offset == m.at && nat_le (m.at + map_len m.head) (area_end a.area)

-- of the first area `FMAP`, if any
abbrev pub map_area_findings : FoundMap → List NumberedArea → List MapFinding
map_area_findings map areas = let area = find (has_name (codes "FMAP")) areas in
    only_if (not (option_map_or (begins_with_map map) area false)) (MapAreaMisses area)

-- of a map, the next map and the areas, in an image of n bytes
abbrev pub findings_of : ℕ → FoundMap → Option FoundMap → List NumberedArea → List MapFinding
findings_of n map next areas = Map map ∷ option_to_list (option_map OtherMap next)
    ++ only_if (not (map.head.size == n)) OtherSize ++ flat_map (area_findings n) areas
    ++ flat_map (name_findings areas) areas ++ overlap_findings areas ++ map_area_findings map areas

unfoldable pub map_findings : List ℕ → List MapFinding
map_findings image = option_map_or (λ (map : FoundMap). findings_of (length image) map
    (found_from (map.at + 1) image) (map_areas image map)) (found_in image) (NoMap ∷ [])
