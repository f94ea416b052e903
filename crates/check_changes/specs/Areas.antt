-- Changes of the flash map and of areas. This project defines their choice and order.
use Rattle.std.specs.Prelude.{ℕ, ◌+◌, ◌-◌, ◌*◌, Bool, false, not, ◌&&◌, List, [], ◌∷◌, ◌++◌, length, map, min, nat_lt, nat_le, Option, Some, None, is_none, ◌==◌, if◌then◌else◌}
use Rattle.std.specs.Bool.{then_some}
use Rattle.std.specs.List.{flat_map, list_any}
use Rattle.std.specs.Option.{option_map_or, option_and_then}
use Rattle.std.specs.Str.{bytes_eq}
use Rattle.flash_format.specs.Flashmap.{text_of}
use Rattle.flash_device.specs.Regions.{Range, bytes_in}
use Rattle.check_findings.specs.Areas.{area_end}
use Rattle.check_findings.specs.declared.areas.NumberedArea.{NumberedArea}
use Rattle.flash_map.specs.declared.search.FoundMap.{FoundMap}
use Rattle.check_findings.specs.Lists.{only_if}
use Rattle.check_findings.specs.ImageFindings.{range_of}
use Rattle.check_findings.specs.MapFindings.{namesake}
use Rattle.check_changes.specs.declared.areas.change.AreaChange.{AreaChange}
use Rattle.check_changes.specs.declared.areas.change.AreaDifference.{AreaDifference}
use Rattle.check_changes.specs.declared.areas.change.AreaDifference.TheVariants.{Added, Gone, MovedFrom, ResizedFrom, FlagsFrom, Differs, NotCompared}
use Rattle.check_changes.specs.declared.areas.change.MapChange.{MapChange}
use Rattle.check_changes.specs.declared.areas.change.MapChange.TheVariants as maps
use Rattle.check_changes.specs.declared.areas.pairs.AreaPair.{AreaPair}
use Rattle.check_changes.specs.declared.images.Both.{Both}
use Rattle.check_changes.specs.Images.{lengths_of}
use Rattle.std.specs.Prelude.{zero, suc, ◌/◌, take, drop, max}
use Rattle.std.specs.Int.{from_bool}

-- ---- blocks of 4096 bytes, a size that this project defines

-- the number of blocks of n bytes
abbrev pub blocks_of : ℕ → ℕ
blocks_of n = (n + 4095) / 4096

-- the blocks of this number, of up to 4096 bytes, differ
abbrev pub differs : List ℕ → List ℕ → ℕ → Bool
differs x y n = not (bytes_eq (take 4096 (drop (4096 * n) x)) (take 4096 (drop (4096 * n) y)))

-- how many numbers below n pass a test
abbrev pub count_below : (ℕ → Bool) → ℕ → ℕ
count_below test zero = 0
count_below test (suc n) = count_below test n + from_bool (test n)

-- the number of different blocks
unfoldable pub different_blocks : List ℕ → List ℕ → ℕ
different_blocks x y = count_below (differs x y) (blocks_of (max (length x) (length y)))

-- ---- the flash map

-- a difference with the old number, if the new number is another
abbrev pub if_changed : {D : Type 0} → ℕ → ℕ → (ℕ → D) → List D
if_changed old new what = only_if (not (old == new)) (what old)

abbrev pub map_changes : Option FoundMap → Option FoundMap → List MapChange
map_changes old None = []
map_changes None (Some new) = maps.NoOldMap ∷ []
map_changes (Some old) (Some new) = if_changed old.at new.at maps.MovedFrom
    ++ if_changed old.head.base new.head.base maps.BaseFrom
    ++ only_if (not (bytes_eq (text_of old.head.name) (text_of new.head.name))) maps.NameChanged

-- ---- pairs of areas

-- the area is the first of its name
abbrev pub is_first_of_name : List NumberedArea → NumberedArea → Bool
is_first_of_name areas a =
    option_map_or (λ first. first.number == a.number) (namesake a areas) false

-- a new area with the first old namesake
abbrev pub pair_of : List NumberedArea → NumberedArea → AreaPair
pair_of olds new = record { old = namesake new olds; new = new }

-- the pairs of the first new area of each name
abbrev pub pairs : List NumberedArea → List NumberedArea → List AreaPair
pairs olds news = flat_map (λ new. only_if (is_first_of_name news new) (pair_of olds new)) news

abbrev pub is_same_size : AreaPair → Bool
is_same_size pair = option_map_or (λ old. old.area.size == pair.new.area.size) pair.old false

-- both areas lie in images of these lengths
abbrev pub lie_inside : Both ℕ → NumberedArea → NumberedArea → Bool
lie_inside lens old new = nat_le (area_end old.area) lens.old && nat_le (area_end new.area) lens.new

-- both areas as regions, if both lie in their images
abbrev pub regions_of : Both ℕ → AreaPair → Option (Both Range)
regions_of lens pair = option_and_then (λ old. then_some (lie_inside lens old pair.new)
    (record { old = range_of old; new = range_of pair.new })) pair.old

abbrev pub same_size_regions : Both ℕ → AreaPair → Option (Both Range)
same_size_regions lens pair = if is_same_size pair then regions_of lens pair else None

-- both pairs have the same distance from the old region to the new one
abbrev pub has_same_shift : Both Range → Both Range → Bool
has_same_shift outer inner =
    inner.old.start + outer.new.start == outer.old.start + inner.new.start

-- the inner range contains the whole block of the outer range
abbrev pub contains_block : Range → ℕ → Range → Bool
contains_block outer number inner = nat_le inner.start (outer.start + 4096 * number)
    && nat_le (outer.start + min (4096 * number + 4096) outer.size) (inner.start + inner.size)

-- smaller regions with the same shift contain the block of the outer regions
abbrev pub has_block : Both Range → ℕ → Both Range → Bool
has_block outer number inner = nat_lt inner.new.size outer.new.size
    && (has_same_shift outer inner && contains_block outer.new number inner.new)

-- a pair of one size holds the block
abbrev pub is_held : Both ℕ → List AreaPair → Both Range → ℕ → Bool
is_held lens pairs outer number = list_any
    (λ pair. option_map_or (has_block outer number) (same_size_regions lens pair) false) pairs

-- ---- the limit of compared bytes

-- the compared regions, of at most `left` bytes
abbrev pub compared : ℕ → Option (Both Range) → Option (Both Range)
compared left regions =
    option_and_then (λ both. then_some (nat_le both.old.size left) both) regions

-- the bytes of the compared regions
abbrev pub compared_size : ℕ → Option (Both Range) → ℕ
compared_size left regions = option_map_or (λ both. both.old.size) (compared left regions) 0

-- the remaining bytes for comparisons
abbrev pub left_after : ℕ → Option (Both Range) → ℕ
left_after left regions = left - compared_size left regions

-- the changes of pairs in order, with `left` bytes for comparisons: a pair has the given regions,
-- and its changes depend on the compared ones
abbrev pub changes_by : {C : Type 0} → (AreaPair → Option (Both Range))
    → (AreaPair → Option (Both Range) → List C) → ℕ → List AreaPair → List C
changes_by regions changes left [] = []
changes_by regions changes left (pair ∷ later) = changes pair (compared left (regions pair))
    ++ changes_by regions changes (left_after left (regions pair)) later

-- ---- changes of areas

abbrev pub area_change : NumberedArea → AreaDifference → AreaChange
area_change a what = record { area = a; what = what }

abbrev pub entry_differences : Option NumberedArea → NumberedArea → List AreaDifference
entry_differences None new = Added ∷ []
entry_differences (Some old) new = if_changed old.area.offset new.area.offset MovedFrom
    ++ if_changed old.area.size new.area.size ResizedFrom
    ++ if_changed old.area.flags new.area.flags FlagsFrom

-- the blocks with this number of both regions differ
abbrev pub is_difference : List ℕ → List ℕ → Both Range → ℕ → Bool
is_difference x y regions number = differs (bytes_in regions.old x) (bytes_in regions.new y) number

module _ (x y : List ℕ) (pairs : List AreaPair) where
  -- the blocks differ, and no smaller pair holds them
  abbrev pub is_own_difference : Both Range → ℕ → Bool
  is_own_difference regions number =
      is_difference x y regions number && not (is_held (lengths_of x y) pairs regions number)

  -- the difference of an area's bytes, by the compared regions
  abbrev pub content_differences : AreaPair → Option (Both Range) → List AreaDifference
  content_differences pair None = only_if (is_same_size pair) NotCompared
  content_differences pair (Some regions) = let end = blocks_of regions.old.size in
      let blocks = count_below (is_difference x y regions) end in
      only_if (nat_lt 0 blocks) (Differs blocks (count_below (is_own_difference regions) end))

  -- the changes of an area, by the compared regions
  abbrev pub pair_changes : AreaPair → Option (Both Range) → List AreaChange
  pair_changes pair regions = map (area_change pair.new)
      (entry_differences pair.old pair.new ++ content_differences pair regions)

  -- the changes of some pairs, with `left` bytes for comparisons
  abbrev pub area_changes_in : ℕ → List AreaPair → List AreaChange
  area_changes_in left some =
      changes_by (same_size_regions (lengths_of x y)) pair_changes left some

-- the removal of an old area
abbrev pub gone_of : List NumberedArea → List NumberedArea → NumberedArea → List AreaChange
gone_of olds news old =
    only_if (is_first_of_name olds old && is_none (namesake old news)) (area_change old Gone)

-- The changes from image x to image y: of new areas, then of old areas. The compared areas have at
-- most 8 times the bytes of y.
unfoldable pub area_changes : List ℕ → List NumberedArea → List ℕ → List NumberedArea
    → List AreaChange
area_changes x olds y news = let all = pairs olds news in
    area_changes_in x y all (8 * length y) all ++ flat_map (gone_of olds news) olds
