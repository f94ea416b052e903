-- Changes of components in two images. This project defines their choice and order.
use Rattle.std.specs.Prelude.{ℕ, ◌+◌, ◌*◌, ◌/◌, List, [], ◌∷◌, length, map, is_some, Option, Some}
use Rattle.std.specs.Prelude.{None, Result}
use Rattle.flash_device.specs.Regions.{Range, bytes_in}
use Rattle.check_findings.specs.declared.areas.NumberedArea.{NumberedArea}
use Rattle.check_findings.specs.declared.image.finding.ImageFinding.{ImageFinding}
use Rattle.check_findings.specs.ImageFindings.{region_areas}
use Rattle.check_findings.specs.RegionFindings.{entry_range}
use Rattle.check_findings.specs.Lists.{only_if}
use Rattle.check_changes.specs.declared.areas.pairs.AreaPair.{AreaPair}
use Rattle.check_changes.specs.declared.components.first.Listing.{Listing}
use Rattle.check_changes.specs.declared.images.Both.{Both}
use Rattle.check_changes.specs.declared.regions.change.RegionChange.{RegionChange}
use Rattle.check_changes.specs.declared.regions.change.RegionChange.TheVariants.{Compared, NotCompared}
use Rattle.check_changes.specs.Areas.{changes_by, pair_of, regions_of}
use Rattle.check_changes.specs.Components.{component_changes}
use Rattle.check_changes.specs.Images.{HasReadFor, lengths_of}
use Rattle.check_changes.specs.declared.fault.ChangeFault.{ChangeFault}
use Rattle.check_changes.specs.declared.images.Images.{Images}

abbrev pub listed_regions : Both Listing → Both Range
listed_regions lists = record { old = lists.old.region; new = lists.new.region }

-- areas whose components are compared: the bytes of the old ones, the bytes of the new ones, and
-- the number of the new ones
pub record ComparedAreas : Type 0 where
  pub old_bytes : ℕ
  pub new_bytes : ℕ
  pub count : ℕ

-- images j after a comparison of components in images i; the result names the device that refused a
-- read
abbrev pub HasReadAreas : {F G T : Type 0} → ComparedAreas → Images F G → Images F G
    → Result T ChangeFault → Type 0
HasReadAreas areas i j r =
    let old_reads = (areas.old_bytes + areas.new_bytes) / 24 + 2 * areas.count in
    let new_reads = areas.new_bytes / 12 + 2 * areas.count in HasReadFor old_reads new_reads i j r

-- the parts of both ranges that entries can fill
abbrev pub entry_ranges : Both Range → Both Range
entry_ranges r = record { old = entry_range r.old; new = entry_range r.new }

-- the changes of the components of an area, by the compared regions; none without a namesake
abbrev pub region_change : List ℕ → List ℕ → AreaPair → Option (Both Range) → List RegionChange
region_change x y pair (Some regions) = let entries = entry_ranges regions in Compared pair.new
    (component_changes (bytes_in entries.old x) (bytes_in entries.new y)) ∷ []
region_change x y pair None = only_if (is_some pair.old) (NotCompared pair.new)

-- the changes of components of some areas from old namesakes, with `left` bytes for comparisons
abbrev pub region_changes_in : ℕ → List ℕ → List ℕ → List NumberedArea → List NumberedArea
    → List RegionChange
region_changes_in left x y olds areas = changes_by (regions_of (lengths_of x y))
    (region_change x y) left (map (pair_of olds) areas)

-- The changes from image x with these areas to image y with these findings. The compared areas of x
-- have at most as many bytes as x.
unfoldable pub region_changes : List ℕ → List NumberedArea → List ℕ → List ImageFinding
    → List RegionChange
region_changes x olds y findings = region_changes_in (length x) x y olds (region_areas findings)
