-- The first 24 bytes of a CBFS entry (`struct cbfs_file`, big-endian), and the checks of a head
-- alone. This project's rules: the order and limits of the checks.
use Rattle.std.specs.Prelude.{ℕ, ◌+◌, ◌*◌, ◌/◌, Bool, not, ◌&&◌, ◌||◌, List, ◌++◌, slice_range, Option, Result, Ok, Err, nat_eq, nat_lt, ◌==◌, if◌then◌else◌}
use Rattle.std.specs.Bool.{then_some}
use Rattle.std.specs.List.{starts_with}
use Rattle.byteorder.specs.Endian.{big_number, big_bytes}
use lib.Chars.{codes}
use Rattle.flash_format.specs.declared.head.Head.{Head}
use Rattle.flash_format.specs.declared.head.Extent.{Extent}
use Rattle.flash_format.specs.declared.head.DamageKind.{DamageKind}
use Rattle.flash_format.specs.declared.head.DamageKind.TheVariants as kinds

-- rounded up to a multiple of 64
abbrev pub round64 : ℕ → ℕ
round64 n = (n + 63) / 64 * 64

-- the big-endian number of four bytes at an offset
abbrev pub be32 : ℕ → List ℕ → ℕ
be32 at x = big_number 4 (slice_range x at (at + 4))

-- the fields of `struct cbfs_file` after its magic, which has eight bytes
unfoldable pub head_of : List ℕ → Head
head_of x = record {
  len = be32 8 x;
  kind = be32 12 x;
  attributes_offset = be32 16 x;
  offset = be32 20 x;
}

-- None without the magic
unfoldable pub head_at : List ℕ → Option Head
head_at x = then_some (starts_with nat_eq x (codes "LARCHIVE")) (head_of x)

-- `struct cbfs_file`, field by field
unfoldable pub head_bytes : Head → List ℕ
head_bytes h =
    codes "LARCHIVE"
    ++ big_bytes 4 h.len
    ++ big_bytes 4 h.kind
    ++ big_bytes 4 h.attributes_offset
    ++ big_bytes 4 h.offset

-- deleted or null
abbrev pub is_free : Head → Bool
is_free h = h.kind == 0 || h.kind == 0xffffffff

-- before the name's least end, or after the content's start
abbrev pub attributes_misplaced : Head → Bool
attributes_misplaced h = not (h.attributes_offset == 0)
    && (nat_lt h.attributes_offset 25 || nat_lt h.offset h.attributes_offset)

-- The first failed check with `left` bytes up to the region's end, or the extent.
unfoldable pub extent_of : Head → ℕ → Result Extent DamageKind
extent_of h left = if nat_lt h.offset (if is_free h then 24 else 25) then Err kinds.Offset
    else (if not (is_free h) && attributes_misplaced h then Err kinds.AttrOffset
    else (if nat_lt left (h.offset + h.len) then Err kinds.Extent
    else Ok (record { content = h.offset; span = round64 (h.offset + h.len) })))
