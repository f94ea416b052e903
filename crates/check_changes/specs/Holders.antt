-- Areas of one size in two images, in an order by which a search finds those that contain a block.
use Rattle.std.specs.Prelude.{ℕ, ◌+◌, ◌-◌, ◌*◌, ◌%◌, ◌<◌, ◌≤◌, Bool, List, length, min, slice_index_or}
use Rattle.std.specs.List.{list_any}
use Rattle.flash_device.specs.Regions.{Range}
use Rattle.check_changes.specs.declared.areas.holders.Holder.{Holder}
use Rattle.check_changes.specs.declared.images.Both.{Both}
use Rattle.check_changes.specs.Areas.{has_block}

abbrev pub ranges_of : Holder → Both Range
ranges_of h = record {
  old = record { start = h.old; size = h.size };
  new = record { start = h.new; size = h.size };
}

-- a block of this number begins in areas below 2^32
abbrev pub IsBlockIn : Both Range → ℕ → Type 0
IsBlockIn outer number = (outer.old.start < 4294967296)
    × ((outer.new.start + outer.new.size < 4294967296) × (4096 * number ≤ outer.new.size))

-- the distance from an old offset to a new one, modulo 2^32
abbrev pub shift_of : ℕ → ℕ → ℕ
shift_of old new = (new + 4294967296 - old) % 4294967296

-- An offset of the new image as one number, which a comparison orders by the shift first, and then
-- by the offset.
abbrev pub place_of : ℕ → ℕ → ℕ → ℕ
place_of old new at = shift_of old new * 4294967296 + at

abbrev pub start_of : Holder → ℕ
start_of h = place_of h.old h.new h.new

abbrev pub end_of : Holder → ℕ
end_of h = place_of h.old h.new (min (h.new + h.size) 4294967295)

-- one of the holders contains the block
abbrev pub holders_have : Both Range → ℕ → List Holder → Bool
holders_have outer number all = list_any (λ h. has_block outer number (ranges_of h)) all

-- The k-th number is at least the end of each of the areas 0 to k, for a search among areas in the
-- order of their starts: if the areas 0 to k are those that begin at or before a block, and the
-- k-th number is below the end of the block, then no area contains the block. (`d` is the default
-- of `slice_index_or`, which is never taken here.)
abbrev pub AreReached : List Holder → List ℕ → Type 0
AreReached all reaches = (i k : ℕ) (d : Holder) → i ≤ k → k < length all
    → end_of (slice_index_or all i d) ≤ slice_index_or reaches k 0
