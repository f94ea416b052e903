-- Laws about findings.
use Rattle.std.specs.Prelude.{◌≡◌, ◌≢◌, Bool, true, false, ℕ, ◌+◌, ◌<◌, ◌≤◌, ◌⊎◌, All, Contains}
use Rattle.std.specs.Prelude.{not, ◌-◌, slice_range, IsSomeAnd, List, length, Option, None, Ok, Some}
use Rattle.std.specs.List.{find, list_any}
use Rattle.std.specs.Str.{is_utf8}
use lib.Chars.{codes}
use Rattle.flash_format.specs.declared.digest.Digest.{Digest}
use Rattle.flash_format.specs.declared.head.DamageKind.{DamageKind}
use Rattle.flash_format.specs.Components.{Component, components}
use Rattle.flash_format.specs.Cut.{cut, damage, tail}
use Rattle.flash_format.specs.Head.{head_of}
use Rattle.flash_format.specs.Flashmap.{text_of}
use Rattle.check_findings.specs.Areas.{area_end, has_name}
use Rattle.check_findings.specs.Attributes.{AreSoundAttributes, cell_walked}
use Rattle.flash_map.specs.Fmap.{found_from, found_in}
use Rattle.flash_map.specs.Regions.{region_of}
use Rattle.check_findings.specs.declared.areas.NumberedArea.{NumberedArea}
use Rattle.flash_map.specs.declared.search.FoundMap.{FoundMap}
use Rattle.cbfs_walk.specs.Search.{component_in}
use Rattle.cbfs_walk.specs.Hashes.{hash_state}
use Rattle.cbfs_walk.specs.Shapes.{shape_fault}
use Rattle.cbfs_walk.specs.declared.hashes.HashState.TheVariants.{Invalid}
use Rattle.cbfs_walk.specs.CellReadings.{place_after}
use Rattle.check_findings.specs.MapFindings.{begins_with_map, namesake}
use Rattle.check_findings.specs.RegionFindings.{is_filled, region_findings}
use Rattle.check_findings.specs.ImageFindings.{covering, entry_bytes, image_findings, range_of}
use Rattle.check_findings.specs.ImageFindings.{region_areas}
use Rattle.check_findings.specs.Verdicts.{changes_later, is_bad, is_bad_region, rules_of}
use Rattle.check_findings.specs.Anchors.{image_anchor}
use Rattle.check_findings.specs.declared.anchor.finding.AnchorFinding.{AnchorFinding}
use Rattle.check_findings.specs.declared.anchor.finding.AnchorFinding.TheVariants.{FlashMap, Metadata}
use Rattle.cbfs_anchor.specs.declared.anchor.Anchor.{Anchor}
use Rattle.cbfs_anchor.specs.Metadata.{longest_metadata, metadata_len}
use Rattle.cbfs_anchor.specs.Seals.{Survey, stored_map, stored_metadata}

-- ---- flash maps without findings

-- The areas of the map; an area ends before a later area begins, or contains the later area.
pub record IsSound (image : List ℕ) (map : FoundMap) (areas : List NumberedArea) : Type 0 where
  pub found : found_in image ≡ Some map
  pub size : map.head.size ≡ length image
  pub only : found_from (map.at + 1) image ≡ None
  pub inside : All (λ a. (0 < a.area.size) × (area_end a.area ≤ length image)) areas
  pub text : All (λ a. is_utf8 (text_of a.area.name) ≡ true) areas
  pub named : All (λ a. namesake a areas ≡ Some a) areas
  pub nested : (a b : NumberedArea) → Contains areas a → Contains areas b → a.area.offset
      < b.area.offset → (area_end a.area ≤ b.area.offset) ⊎ (area_end b.area ≤ area_end a.area)
  pub held : IsSomeAnd (find (has_name (codes "FMAP")) areas) (λ a. begins_with_map map a ≡ true)

-- ---- regions

-- each byte of the tail is 0xff or 0x00, except the region's last four
abbrev pub IsBlankTail : ℕ → List ℕ → Type 0
IsBlankTail at x = All (λ b. is_filled b ≡ false) (slice_range x at (length x - 4))

-- ---- regions and images without bad findings

-- P holds for each region without bad findings, by the anchor of its image
abbrev pub InFitRegions : (Option Anchor → List ℕ → Type 0) → Type 0
InFitRegions P = (needs : Bool) (anchor : Option Anchor) (x : List ℕ)
    → list_any (is_bad_region (rules_of needs anchor)) (region_findings x) ≡ false → P anchor x

-- `intact`: each digest matches, but maybe not that of intel_fit under an anchor; `short`: the
-- firmware finds each component; `attributes`: the attributes have no fault, as coreboot walks them
pub record IsWhole (anchor : Option Anchor) (x : List ℕ) : Type 0 where
  pub shaped : shape_fault x ≡ None
  pub undamaged : (kind : DamageKind) → (cut x).end ≢ damage kind
  pub intact : (c : Component) (stored : Digest) → Contains (components x) c
      → changes_later anchor c.name ≡ false → hash_state c.attributes c.content ≢ Invalid stored
  pub short : (c : Component) → Contains (components x) c → metadata_len c ≤ longest_metadata
  pub attributes : (c : Component) → Contains (components x) c
      → AreSoundAttributes (head_of c.bytes).kind (cell_walked c.bytes)
  pub blank : (cut x).end ≡ tail → IsBlankTail (place_after 0 (cut x).cells) x
  pub found : (c : Component) → Contains (components x) c → component_in x c.name ≡ Ok (Some c)

-- a search for the area's name finds the area, and the bytes for entries are a whole region
abbrev pub IsFit : List ℕ → NumberedArea → Type 0
IsFit x a = (region_of x (text_of a.area.name) ≡ Ok (range_of a))
    × IsWhole (covering (image_anchor x) a) (entry_bytes x a)

-- P holds for each checked area of an image without bad findings
abbrev pub InFitImages : (List ℕ → NumberedArea → Type 0) → Type 0
InFitImages P = (needs : Bool) (image : List ℕ) (names expected : List (List ℕ))
    → let all = image_findings image names expected in
    list_any (is_bad needs) all ≡ false → All (P image) (region_areas all)

-- ---- anchors

-- a finding of the anchor reports that the stored digest isn't the digest of the metadata
abbrev pub is_other_metadata : AnchorFinding → Bool
is_other_metadata (Metadata spot algorithm valid) = not valid
is_other_metadata _ = false

-- of the flash map
abbrev pub is_other_map : AnchorFinding → Bool
is_other_map (FlashMap spot algorithm valid) = not valid
is_other_map _ = false

-- the anchor has the digests of the image's metadata and flash map
pub record HasDigests (image : List ℕ) (s : Survey) : Type 0 where
  pub metadata : stored_metadata s.anchor image ≡ s.metadata
  pub map : stored_map s.anchor image ≡ s.map
