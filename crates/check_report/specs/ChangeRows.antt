-- Rows of changes. This project defines their codes and texts.
use Rattle.std.specs.Prelude.{ℕ, Bool, not, List, [], ◌∷◌, ◌++◌}
use Rattle.std.specs.Prelude.{map, nat_lt}
use Rattle.std.specs.Prelude.{◌==◌, if◌then◌else◌}
use Prim.Native.String.{String}
use Rattle.check_changes.specs.declared.regions.change.RegionChange.{RegionChange}
use Rattle.check_changes.specs.declared.regions.change.RegionChange.TheVariants as regions
use Rattle.check_changes.specs.declared.areas.change.MapChange.{MapChange}
use Rattle.check_changes.specs.declared.areas.change.MapChange.TheVariants as maps
use Rattle.check_changes.specs.declared.areas.change.AreaChange.{AreaChange}
use Rattle.check_changes.specs.declared.areas.change.AreaDifference.{AreaDifference}
use Rattle.check_changes.specs.declared.areas.change.AreaDifference.TheVariants.{Added, Differs}
use Rattle.check_changes.specs.declared.areas.change.AreaDifference.TheVariants.{FlagsFrom, Gone}
use Rattle.check_changes.specs.declared.areas.change.AreaDifference.TheVariants.{MovedFrom}
use Rattle.check_changes.specs.declared.areas.change.AreaDifference.TheVariants.{NotCompared}
use Rattle.check_changes.specs.declared.areas.change.AreaDifference.TheVariants.{ResizedFrom}
use Rattle.check_changes.specs.declared.components.change.ComponentChange.{ComponentChange}
use Rattle.check_changes.specs.declared.components.change.ComponentDifference.{ComponentDifference}
use Rattle.check_changes.specs.declared.components.change.ComponentDifference.TheVariants as kind
use lib.Chars.{codes}
use Rattle.check_changes.specs.declared.anchor.AnchorChange.{AnchorChange}
use Rattle.check_changes.specs.declared.anchor.AnchorChange.TheVariants as anchors
use Rattle.check_findings.specs.ImageFindings.{has_one_of}
use Rattle.check_findings.specs.Lists.{only_if}
use Rattle.check_report.specs.declared.rows.row.Verdict.TheVariants.{Bad, Change}
use Rattle.cbfs_anchor.specs.AlgorithmNames.{name_of}
use Rattle.check_report.specs.Rows.{SeenRow, area_name, at_component, of_area, row, row_of}
use Rattle.check_report.specs.Rows.{with_count, with_number}

-- a row of a change, which is bad in a kept area, or on request
abbrev pub change_row : Bool → String → String → SeenRow
change_row kept code what = row (if kept then Bad else Change) code what

-- ---- areas

module _ (kept vital : Bool) where
  -- The removal of a vital area is bad. A kept area counts all different blocks, other areas count
  -- those outside smaller areas, if any.
  abbrev pub area_rows : AreaDifference → List SeenRow
  area_rows Added = change_row kept "area-added" "area added" ∷ []
  area_rows Gone = change_row vital "area-gone" "area gone" ∷ []
  area_rows (MovedFrom at) = with_number at (change_row kept "area-moved" "area moved from") ∷ []
  area_rows (ResizedFrom n) =
      with_number n (change_row kept "area-resized" "area resized from") ∷ []
  area_rows (FlagsFrom n) = with_number n (change_row kept "area-flags" "flags changed from") ∷ []
  area_rows (Differs blocks own) = let n = if kept then blocks else own in
      only_if (nat_lt 0 n) (with_count n (change_row kept "area-changed" "erase blocks differ"))
  area_rows NotCompared = change_row kept "area-not-compared" "not compared" ∷ []

unfoldable pub area_change_rows : List (List ℕ) → List (List ℕ) → AreaChange → List SeenRow
area_change_rows kept vital c =
    map (of_area c.area) (area_rows (has_one_of kept c.area) (has_one_of vital c.area) c.what)

-- ---- components of an area of the new image

abbrev pub component_row : Bool → ComponentDifference → SeenRow
component_row kept kind.Added = change_row kept "component-added" "component added"
component_row kept kind.Removed = change_row kept "component-removed" "component removed"
component_row kept kind.Type = change_row kept "component-type-changed" "type changed"
component_row kept kind.Length = change_row kept "component-length-changed" "length changed"
component_row kept kind.Content = change_row kept "component-content-changed" "content changed"
component_row kept kind.Attributes =
    change_row kept "component-attributes-changed" "attributes changed"
component_row kept (kind.MovedFrom at) =
    with_number at (change_row kept "component-moved" "component moved from")

abbrev pub component_change_row : Bool → List ℕ → ComponentChange → SeenRow
component_change_row kept area c = at_component area c.at c.name (component_row kept c.what)

abbrev pub region_change_rows : List (List ℕ) → RegionChange → List SeenRow
region_change_rows kept (regions.Compared a changes) =
    map (component_change_row (has_one_of kept a) (area_name a)) changes
region_change_rows kept (regions.NotCompared a) = of_area a
    (change_row (has_one_of kept a) "components-not-compared" "components not compared") ∷ []

-- ---- whole images

-- rows of the lengths, since flashrom writes no image of another length, and of the number of
-- different blocks
abbrev pub image_rows : ℕ → ℕ → ℕ → List SeenRow
image_rows old new blocks = only_if (not (old == new))
    (with_number old (row Bad "image-size" "image size changed from"))
    ++ only_if (nat_lt 0 blocks) (with_count blocks (row Change "blocks" "erase blocks differ"))

-- ---- the flash map

-- on request, the map of another board is bad: a map with another name or another base address
abbrev pub map_change_row : Bool → MapChange → SeenRow
map_change_row strict maps.NoOldMap = row Change "no-old-map" "the old image has no flashmap"
map_change_row strict (maps.MovedFrom at) =
    with_number at (row Change "map-moved" "flashmap moved from")
map_change_row strict (maps.BaseFrom n) =
    with_number n (change_row strict "map-base" "base address changed from")
map_change_row strict maps.NameChanged =
    change_row strict "map-name" "name of the flashmap changed"

-- ---- the anchor; without it, the firmware doesn't check COREBOOT

abbrev pub anchor_change_row : AnchorChange → SeenRow
anchor_change_row anchors.Added = row Change "anchor-added" "anchor added"
anchor_change_row anchors.Gone = row Bad "anchor-gone" "anchor gone"
anchor_change_row (anchors.AlgorithmFrom algorithm) = row_of Change
    (codes "anchor-algorithm-changed")
    (codes "anchor's algorithm changed from " ++ name_of algorithm)
