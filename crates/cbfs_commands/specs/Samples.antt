-- Literal images, areas and plans, to which the laws are applied, beside those of cbfs_anchor.
use Rattle.std.specs.Prelude.{ℕ, None, List, [], ◌∷◌, ◌++◌, replicate}
use lib.Chars.{codes}
use Rattle.flash_format.specs.declared.flashmap.Area.{Area}
use Rattle.cbfs_anchor.specs.Samples.{free_cell, padded_name, small_map, unsealed_anchor}
use Rattle.cbfs_edit.specs.Additions.{NewComponent}
use Rattle.cbfs_edit.specs.declared.place.Place.{Place}
use Rattle.cbfs_commands.specs.declared.create.plan.Plan.{Plan}

-- The small image of cbfs_anchor: the map in the area FMAP, COREBOOT with a free cell of 64 bytes,
-- and an area BOOTBLOCK with an unsealed anchor. Here the erased bytes between the map and COREBOOT
-- are zeros.
unfoldable pub changed_image : List ℕ
changed_image = small_map ++ replicate 10 0 ++ free_cell ++ unsealed_anchor

-- a plan for it: the area FMAP, the 182 bytes of a map of three areas, and the only CBFS region,
-- COREBOOT
abbrev pub small_plan : Plan
small_plan = record {
  map = record { start = 0; size = 192 };
  map_len = 182;
  regions = record { items = record { start = 192; size = 64 } ∷ [] };
}

-- the component `a` of type raw with the content `DATA`
abbrev pub new_data : NewComponent
new_data = record { name = codes "a"; kind = 0x50; digest = None; content = codes "DATA" }

-- its place in the empty entry of 64 bytes at the start of the region, by offsets in the region:
-- head, name, NUL and padding to a multiple of 4 take 28 bytes
abbrev pub place_in_free : Place
place_in_free = record { run = record { start = 0; end = 64 }; header = 0; content = 28 }

-- an area `A` of this size; 31 NULs fill the 32 bytes of its name
abbrev pub area_of_size : ℕ → Area
area_of_size size =
    record { offset = 0; size = size; name = padded_name (codes "A") 31; flags = 0 }
