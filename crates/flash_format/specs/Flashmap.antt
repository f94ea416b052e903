-- Flash maps: a head and areas (`struct fmap` and `struct fmap_area` of FMAP 1.1), little-endian.
-- This project's rules: the conditions of a valid map, and the choice of the lowest.
use Rattle.std.specs.Prelude.{ℕ, zero, suc, ◌+◌, ◌*◌, Bool, ◌&&◌, List, [], ◌∷◌, ◌++◌, length, drop, slice_index, slice_range, Option, Some, None, nat_eq, nat_le, ◌==◌, if◌then◌else◌}
use Rattle.std.specs.List.{starts_with, list_any, list_all, before_first}
use Rattle.byteorder.specs.Endian.{little_number, little_bytes}
use Rattle.std.specs.Str.{bytes_eq}
use lib.Chars.{codes}
use Rattle.flash_format.specs.declared.flashmap.FmapHead.{FmapHead}
use Rattle.flash_format.specs.declared.flashmap.Area.{Area}
use Rattle.flash_format.specs.Entry.{is_nul}

-- the little-endian number of n bytes at an offset
abbrev pub le : ℕ → ℕ → List ℕ → ℕ
le n at x = little_number n (slice_range x at (at + n))

abbrev pub fmap_head_len : ℕ
fmap_head_len = 56

abbrev pub area_len : ℕ
area_len = 42

unfoldable pub has_signature : List ℕ → Bool
has_signature x = starts_with nat_eq x (codes "__FMAP__")

-- the fields of `struct fmap` after its signature, which has eight bytes
unfoldable pub fmap_head_of : List ℕ → FmapHead
fmap_head_of x = record {
  major = slice_index x 8;
  minor = slice_index x 9;
  base = le 8 10 x;
  size = le 4 18 x;
  name = slice_range x 22 54;
  nareas = le 2 54 x;
}

-- `struct fmap`, field by field
unfoldable pub fmap_head_bytes : FmapHead → List ℕ
fmap_head_bytes h =
    codes "__FMAP__"
    ++ (h.major ∷ h.minor ∷ [])
    ++ little_bytes 8 h.base
    ++ little_bytes 4 h.size
    ++ h.name
    ++ little_bytes 2 h.nareas

-- the fields of `struct fmap_area`
unfoldable pub area_of : List ℕ → Area
area_of x = record {
  offset = le 4 0 x;
  size = le 4 4 x;
  name = slice_range x 8 40;
  flags = le 2 40 x;
}

-- `struct fmap_area`, field by field
unfoldable pub area_bytes : Area → List ℕ
area_bytes a =
    little_bytes 4 a.offset
    ++ little_bytes 4 a.size
    ++ a.name
    ++ little_bytes 2 a.flags

-- up to the first NUL, if any
abbrev pub text_of : List ℕ → List ℕ
text_of name = before_first is_nul name

-- printing ASCII except the blank
abbrev pub is_printing : ℕ → Bool
is_printing b = nat_le 0x21 b && nat_le b 0x7e

abbrev pub is_map_name : List ℕ → Bool
is_map_name name = list_any is_nul name && list_all is_printing (text_of name)

abbrev pub map_len : FmapHead → ℕ
map_len h = fmap_head_len + area_len * h.nareas

-- besides the signature, with `left` bytes up to the image's end
unfoldable pub is_valid_head : FmapHead → ℕ → Bool
is_valid_head h left = h.major == 1 && (is_map_name h.name && nat_le (map_len h) left)

unfoldable pub is_map : List ℕ → Bool
is_map x = nat_le fmap_head_len (length x)
    && (has_signature x && is_valid_head (fmap_head_of x) (length x))

-- the lowest valid map; `at` is the first byte's position
unfoldable pub map_from : ℕ → List ℕ → Option ℕ
map_from at [] = None
map_from at (b ∷ x) = if is_map (b ∷ x) then Some at else map_from (at + 1) x

unfoldable pub areas_from : ℕ → List ℕ → List Area
areas_from zero x = []
areas_from (suc n) x = area_of x ∷ areas_from n (drop area_len x)

abbrev pub is_area : List ℕ → Area → Bool
is_area name a = bytes_eq name (text_of a.name)

-- the offset after an area's last byte
abbrev pub area_end : Area → ℕ
area_end area = area.offset + area.size
