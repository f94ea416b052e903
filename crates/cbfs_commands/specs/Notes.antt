-- The note on an outdated anchor: due if a command may outdate the anchor, and the anchor is
-- outdated after the command.
use Rattle.std.specs.Prelude.{◌≡◌, ℕ, ◌+◌, Bool, true, false, ◌&&◌, List, length, slice_range}
use Rattle.std.specs.Prelude.{Option, Some, None, Ok, nat_le, if◌then◌else◌}
use Rattle.std.specs.Str.{bytes_eq}
use Rattle.flash_format.specs.Flashmap.{fmap_head_bytes, fmap_head_len}
use Rattle.flash_map.specs.Fmap.{found_in, map_end}
use Rattle.flash_map.specs.declared.search.FoundMap.{FoundMap}
use Rattle.cbfs_anchor.specs.Seals.{Survey, has_digests, survey_with}
use Rattle.cbfs_anchor.specs.declared.demand.Demand.TheVariants as demands
use Rattle.cbfs_requests.specs.Requests.{Request, on_region, add, remove, write}
use Rattle.cbfs_commands.specs.Outcomes.{CommandResult}

-- a successful addition, removal or write; no other command changes an existing image
abbrev pub may_outdate : Request → CommandResult → Bool
may_outdate (on_region region (add name kind hash spot)) (Ok done) = true
may_outdate (on_region region (remove name)) (Ok done) = true
may_outdate (on_region region write) (Ok done) = true
may_outdate request answer = false

-- the image still has the head of the map at its offset, and ends at the end of the table of areas
-- or later
abbrev pub stands : FoundMap → List ℕ → Bool
stands map image = nat_le (map_end map) (length image)
    && bytes_eq (slice_range image map.at (map.at + fmap_head_len)) (fmap_head_bytes map.head)

-- The flash map after a command: the map used by the command, if the image still has the map's head
-- at the same offset, else the first map of the image. The used map has precedence over a map that
-- the command has written at an earlier offset, because the firmware reads the map at the offset of
-- the board's layout, without a search.
abbrev pub standing_map : Option FoundMap → List ℕ → Option FoundMap
standing_map (Some map) image = if stands map image then Some map else found_in image
standing_map None image = found_in image

-- By the flash map, the image has an anchor, since a survey without an anchor fails, and at least
-- one of the anchor's two digests differs from the digest of the image. `Nothing` demands nothing
-- more of the anchor.
abbrev pub HasOutdatedDigest : FoundMap → List ℕ → Type 0
HasOutdatedDigest map image = (s : Survey) × (survey_with demands.Nothing image map ≡ Ok s)
    × (has_digests s image ≡ false)

-- an outdated digest, by the flash map after a command
abbrev pub IsOutdated : Option FoundMap → List ℕ → Type 0
IsOutdated used image = (map : FoundMap) × (standing_map used image ≡ Some map)
    × HasOutdatedDigest map image
