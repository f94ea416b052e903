-- The table of a descriptor, the sections below the root in preorder, and the faults of a layout
-- (this project's own).
use Rattle.std.specs.Prelude.{◌≡◌, ℕ, suc, ◌+◌, ◌-◌, ◌*◌, nat_lt, nat_eq, not, if◌then◌else◌, List}
use Rattle.std.specs.Prelude.{[], ◌∷◌, ◌++◌, codes, length, take, drop, replicate, Option, Some}
use Rattle.std.specs.Prelude.{None, option_map, unwrap_or, Result, Ok}
use Rattle.std.specs.Bool.{then_some}
use Rattle.std.specs.List.{find, flat_map, list_any}
use Rattle.std.specs.Option.{option_map_or, option_or}
use Rattle.std.specs.Result.{result_err, result_unwrap_or}
use Rattle.std.specs.Str.{bytes_eq}
use Rattle.flash_format.specs.Flashmap.{fmap_head_bytes, fmap_head_len, area_bytes, area_len}
use Rattle.flash_format.specs.Flashmap.{is_area}
use Rattle.fmd_lang.specs.Grammar.{Tree, section, Forest, some, names, size_of}
use Rattle.fmd_lang.specs.Layout.{and_then, siblings, places_of}
use Rattle.fmd_lang.specs.declared.row.Place.{Place}
use Rattle.fmd_lang.specs.declared.fault.FmdFault.{FmdFault}
use Rattle.fmd_lang.specs.declared.fault.FmdFault.TheVariants as faults
use Rattle.flash_format.specs.declared.flashmap.Area.{Area}
use Rattle.flash_format.specs.declared.flashmap.FmapHead.{FmapHead}
use Rattle.fmd_lang.specs.declared.table.Table.{Table}

-- the maximum number of areas
abbrev pub area_limit : ℕ
area_limit = 65535

-- a name, padded with NULs to 32 bytes
abbrev pub field_of : List ℕ → List ℕ
field_of name = take 32 name ++ replicate (32 - length name) 0

-- the area of a section with a place in a parent that starts at `start`
abbrev pub section_area : ℕ → Place → Tree → Area
section_area start place (section name flags offset size parts) = record {
  offset = start + place.start;
  size = place.size;
  name = field_of name;
  flags = flags;
}

abbrev mutual
  -- The areas before, then those below a section with this start and size, in preorder, or the
  -- first fault. The section's number is the number of the areas before.
  pub areas_below : ℕ → ℕ → Tree → List Area → Result (List Area) FmdFault
  areas_below start size (section name flags offset given parts) before =
      and_then (places_of size (siblings (length before + 1) parts)) (areas_of start parts before)

  -- the same for parts at their places
  pub areas_of : ℕ → Forest → List Area → List Place → Result (List Area) FmdFault
  areas_of start (some part parts) before (place ∷ places) =
      and_then (areas_below (start + place.start) place.size part
      (before ++ section_area start place part ∷ [])) (λ areas. areas_of start parts areas places)
  areas_of start parts before places = Ok before

-- the size of the area FMAP, or 0
abbrev pub fmap_size : List Area → ℕ
fmap_size areas = option_map_or (λ area. area.size) (find (is_area (codes "FMAP")) areas) 0

abbrev pub IsTable : Tree → Table → Type 0
IsTable (section name flags offset size parts) table =
    (table.base ≡ unwrap_or offset 0) × (size ≡ Some table.size) × (table.name ≡ field_of name)
    × (areas_below 0 table.size (section name flags offset size parts) [] ≡ Ok table.areas.items)

-- ---- the bytes of a table

abbrev pub table_head : Table → FmapHead
table_head table = record {
  major = 1;
  minor = 1;
  base = table.base;
  size = table.size;
  name = table.name;
  nareas = length table.areas.items;
}

abbrev pub table_bytes : Table → List ℕ
table_bytes table = fmap_head_bytes (table_head table) ++ flat_map area_bytes table.areas.items

-- ---- the faults of a layout

abbrev pub count_fault : ℕ → Option FmdFault
count_fault areas = then_some (nat_lt area_limit areas) faults.TooManyAreas

-- the number of the first name that an earlier section has; `number` is that of the first name
abbrev pub duplicate : ℕ → List (List ℕ) → List (List ℕ) → Option ℕ
duplicate number earlier [] = None
duplicate number earlier (name ∷ later) = if list_any (bytes_eq name) earlier then Some number
    else duplicate (suc number) (earlier ++ name ∷ []) later

-- no section FMAP below the root, whose name is the first
abbrev pub fmap_fault : List (List ℕ) → Option FmdFault
fmap_fault all = then_some (not (list_any (bytes_eq (codes "FMAP")) (drop 1 all))) faults.NoFmap

-- the first fault of the names: a duplicate, no FMAP below the root, or too many areas
abbrev pub names_fault : List (List ℕ) → Option FmdFault
names_fault all = option_or (option_map faults.Duplicate (duplicate 0 [] all))
    (option_or (fmap_fault all) (count_fault (length (drop 1 all))))

-- an area FMAP smaller than the table
abbrev pub table_fault : List Area → Option FmdFault
table_fault areas = then_some
    (nat_lt (fmap_size areas) (fmap_head_len + area_len * length areas)) faults.FmapTooSmall

-- the root's size, which is omitted or 0
abbrev pub root_fault : Option ℕ → Option FmdFault
root_fault None = Some (faults.Ambiguous 0)
root_fault (Some size) = then_some (nat_eq size 0) (faults.EmptySection 0)

-- the first fault of the names, the root's size, the places and the table, in this order
unfoldable pub layout_fault : Tree → Option FmdFault
layout_fault root = let areas = areas_below 0 (unwrap_or (size_of root) 0) root [] in
    option_or (names_fault (names root)) (option_or (root_fault (size_of root))
    (option_or (result_err areas) (table_fault (result_unwrap_or areas []))))
