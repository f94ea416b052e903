-- Findings of a region.
use Rattle.std.specs.Prelude.{ℕ, ◌+◌, ◌-◌, ◌*◌, ◌/◌, ◌%◌, Bool, false, not, ◌&&◌, ◌||◌}
use Rattle.std.specs.Prelude.{List, [], ◌∷◌, ◌++◌, drop, filter, length, map, max, slice_range}
use Rattle.std.specs.Prelude.{Option, Some, None, nat_le, nat_lt, is_some, ◌==◌, if◌then◌else◌}
use Rattle.std.specs.List.{filter_map, flat_map, fold, position_from, range_with_len, scan, slice_get}
use Rattle.std.specs.Bool.{then_some}
use Rattle.std.specs.Option.{option_map_or}
use Rattle.std.specs.Str.{bytes_eq}
use Rattle.flash_device.specs.Regions.{Range, bytes_in}
use Rattle.flash_format.specs.Head.{head_of, is_free}
use Rattle.flash_format.specs.Made.{algorithm}
use Rattle.flash_format.specs.Entry.{front}
use Rattle.flash_format.specs.Cut.{End, complete, tail, damage, cut}
use Rattle.flash_format.specs.Components.{Component, component_at}
use Rattle.flash_format.specs.Components.{compression_of}
use Rattle.cbfs_anchor.specs.Metadata.{stored_hash}
use Rattle.cbfs_walk.specs.Hashes.{hash_state}
use Rattle.cbfs_walk.specs.declared.hashes.HashState.{HashState}
use Rattle.cbfs_walk.specs.declared.hashes.HashState.TheVariants as states
use Rattle.cbfs_walk.specs.Shapes.{shape_fault}
use Rattle.cbfs_walk.specs.CellReadings.{place_after}
use Rattle.cbfs_walk.specs.declared.walk.WalkFault.{WalkFault}
use Rattle.cbfs_walk.specs.declared.walk.WalkFault.TheVariants as walk
use Rattle.check_findings.specs.Attributes.{cell_fault}
use Rattle.check_findings.specs.Lists.{only_if}
use Rattle.check_findings.specs.declared.region.finding.Content.{Content}
use Rattle.check_findings.specs.declared.region.finding.HashFinding.{HashFinding}
use Rattle.check_findings.specs.declared.region.finding.HashFinding.TheVariants as hashes
use Rattle.check_findings.specs.declared.region.finding.RegionFinding.{RegionFinding}
use Rattle.check_findings.specs.declared.region.finding.RegionFinding.TheVariants as findings
use Rattle.check_findings.specs.declared.region.finding.RegionFinding.TheVariants.{Component as Found}
use Rattle.check_findings.specs.declared.region.finding.RegionFinding.TheVariants.{Deleted}
use Rattle.check_findings.specs.declared.region.entry_counts.EntryCounts.{EntryCounts}

abbrev pub hash_finding : HashState → HashFinding
hash_finding states.Absent = hashes.Missing
hash_finding (states.Valid digest) = hashes.Valid (algorithm digest)
hash_finding (states.Invalid digest) = hashes.Invalid (algorithm digest)
hash_finding states.Unsupported = hashes.Unsupported

abbrev pub component_content : Component → Content
component_content c = let head = head_of c.bytes in record {
  start = c.at + head.offset;
  kind = head.kind;
  len = head.len;
  compression = compression_of c.attributes;
  hash = hash_finding (hash_state c.attributes c.content);
  stored = stored_hash c.attributes;
  fault = cell_fault c.bytes;
}

-- of an entry; an empty entry of type 0 is a deleted component
abbrev pub cell_findings : ℕ → List ℕ → List RegionFinding
cell_findings at x = if is_free (head_of x) then only_if ((head_of x).kind == 0) (Deleted at)
    else let c = component_at at x in Found c.at c.name false (component_content c) ∷ []

-- of entries from this offset on
unfoldable pub cells_findings : ℕ → List (List ℕ) → List RegionFinding
cells_findings at cells = flat_map (λ l. l) (scan (λ at x. at + length x) cell_findings at cells)

-- ---- the end of the entries

-- a byte is neither erased nor cleared
abbrev pub is_filled : ℕ → Bool
is_filled b = not (b == 0xff || b == 0x00)

-- the offset of the tail's first filled byte, except the region's last four bytes
abbrev pub first_filled : ℕ → List ℕ → Option ℕ
first_filled at x = position_from is_filled at (slice_range x at (length x - 4))

-- an entry, damaged or not, begins at this offset of the region
abbrev pub has_entry_at : ℕ → List ℕ → Bool
has_entry_at at x = is_some (front (drop at x))

-- the offsets from `at` on in steps of 64, each at least 64 bytes before the end of the region
abbrev pub offsets_from : ℕ → List ℕ → List ℕ
offsets_from at x = map (λ i. at + 64 * i) (range_with_len 0 ((length x - at) / 64))

-- the entries from `at` on: the walk ends at `at`, and returns none of them
abbrev pub later_entries : ℕ → List ℕ → List RegionFinding
later_entries at x =
    map findings.TailEntry (filter (λ place. has_entry_at place x) (offsets_from at x))

-- of a tail from `at` on with this first filled byte
abbrev pub filled_tail : ℕ → List ℕ → ℕ → List RegionFinding
filled_tail at x filled = findings.TailFilled filled ∷ later_entries at x

-- of the tail from `at` on; a blank tail has no entries
unfoldable pub tail_findings : ℕ → List ℕ → List RegionFinding
tail_findings at x =
    findings.Tail at ∷ option_map_or (filled_tail at x) (first_filled at x) []

-- of the end of the entries
abbrev pub end_findings : List ℕ → ℕ → End → List RegionFinding
end_findings x at complete = findings.Complete ∷ []
end_findings x at tail = tail_findings at x
end_findings x at (damage kind) = findings.Damaged at kind ∷ []

-- of a bad size or a missing first entry
abbrev pub shape_findings : WalkFault → List RegionFinding
shape_findings walk.RegionShape = findings.BadSize ∷ []
shape_findings walk.NotCbfs = findings.NotCbfs ∷ []
shape_findings _ = []

-- ---- counts

-- the usable bytes of the empty run after the last component, if the entries end here: all but the
-- region's last four
abbrev pub last_room : EntryCounts → ℕ
last_room counts = counts.at - counts.start - (if counts.at == counts.size then 4 else 0)

-- the most usable bytes of an empty run, if the entries end here
abbrev pub usable_room : EntryCounts → ℕ
usable_room counts = max counts.room (last_room counts)

-- the counts after an empty entry of `len` bytes
abbrev pub counts_after_free : EntryCounts → ℕ → EntryCounts
counts_after_free counts len = record counts { at = counts.at + len; free = counts.free + len }

-- the counts after a component of `len` bytes, which ends the preceding empty run
abbrev pub counts_after_component : EntryCounts → ℕ → EntryCounts
counts_after_component counts len = record counts {
  at = counts.at + len;
  components = counts.components + 1;
  room = usable_room counts;
  start = counts.at + len;
}

-- the counts after an entry of `len` bytes
abbrev pub counts_after : EntryCounts → Bool → ℕ → EntryCounts
counts_after counts free len =
    if free then counts_after_free counts len else counts_after_component counts len

-- the counts before the first entry of a region of `size` bytes
abbrev pub no_entries : ℕ → EntryCounts
no_entries size =
    record { size = size; at = 0; components = 0; free = 0; start = 0; room = 0 }

-- the counts after the entries `cells` of a region of `size` bytes
abbrev pub entry_counts : ℕ → List (List ℕ) → EntryCounts
entry_counts size = fold
    (λ counts entry. counts_after counts (is_free (head_of entry)) (length entry))
    (no_entries size)

-- In the room, 28 bytes hold the header and a name of at most 3 bytes with its NUL.
abbrev pub largest_content : ℕ → Option ℕ
largest_content room = then_some (nat_le 28 room) (room - 28)

abbrev pub count_findings : EntryCounts → List RegionFinding
count_findings counts = findings.Components counts.components
    ∷ findings.FreeBytes counts.free
    ∷ findings.LargestContent (largest_content (usable_room counts)) ∷ []

-- ---- the region

-- a bad shape alone, or the findings of the entries, of their end, and of the counts
unfoldable pub walk_findings : List ℕ → List RegionFinding
walk_findings x = option_map_or shape_findings (shape_fault x) (cells_findings 0 (cut x).cells
    ++ (end_findings x (place_after 0 (cut x).cells) (cut x).end
    ++ count_findings (entry_counts (length x) (cut x).cells)))

-- ---- shadowed components

abbrev pub content_named : List ℕ → RegionFinding → Option Content
content_named name (Found at other is c) = if bytes_eq other name then Some c else None
content_named name _ = None

-- the first content of this name
abbrev pub first_content : List ℕ → List RegionFinding → Option Content
first_content name findings = slice_get (filter_map (content_named name) findings) 0

-- a component is shadowed if an earlier component has its name
abbrev pub marked : List RegionFinding → RegionFinding → RegionFinding
marked earlier (Found at name is c) = Found at name (is || is_some (first_content name earlier)) c
marked earlier other = other

-- of the walk, with marks
unfoldable pub region_findings : List ℕ → List RegionFinding
region_findings x = scan (λ earlier finding. finding ∷ earlier) marked [] (walk_findings x)

-- ---- areas of any size

-- the part of a range that entries can fill: up to the last multiple of 64 bytes
abbrev pub entry_range : Range → Range
entry_range r = record { start = r.start; size = r.size - r.size % 64 }

-- the range has room for an entry, but its size is no multiple of 64
abbrev pub is_unaligned : Range → Bool
is_unaligned r = nat_lt 64 r.size && not (r.size % 64 == 0)

-- The findings of a checked range: the findings of the entries, followed by another finding if the
-- range is unaligned. The bytes after the last multiple of 64 have no entry.
abbrev pub range_findings : List ℕ → Range → List RegionFinding
range_findings image r = region_findings (bytes_in (entry_range r) image)
    ++ only_if (is_unaligned r) findings.UnalignedSize
