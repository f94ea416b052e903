-- CBFS entries (coreboot's CBFS file header, and bytes up to the region's end) and attributes
-- (`struct cbfs_file_attribute`, with the head in its length). This project's rules: the five
-- checks and their order, the end of an attribute list, and valid attribute lengths.
use Rattle.std.specs.Prelude.{ℕ, zero, suc, pred, Bool, true, false, ◌||◌, List, [], ◌∷◌, length, slice_range, Option, Some, None, nat_lt, ◌==◌, if◌then◌else◌, not, take, Result, Ok, Err, is_some}
use Rattle.std.specs.List.{find, list_any}
use Rattle.std.specs.Option.{option_map, option_map_or}
use Rattle.flash_format.specs.declared.attribute.AttrHead.{AttrHead}
use Rattle.flash_format.specs.Head.{be32, head_at, is_free, extent_of}
use Rattle.flash_format.specs.declared.head.Head.{Head}
use Rattle.flash_format.specs.declared.head.Extent.{Extent}
use Rattle.flash_format.specs.declared.head.DamageKind.{DamageKind}
use Rattle.flash_format.specs.declared.head.DamageKind.TheVariants as kinds

unfoldable pub attr_head_of : List ℕ → AttrHead
attr_head_of x = record { tag = be32 0 x; len = be32 4 x }

pub record Attribute : Type 0 where
  pub tag : ℕ
  pub contents : List ℕ

-- attribute: compression, decompressed size
abbrev pub COMPRESSION : ℕ
COMPRESSION = 0x42435a4c

-- attribute: algorithm, digest
abbrev pub HASH : ℕ
HASH = 0x68736148

abbrev pub is_unused : ℕ → Bool
is_unused tag = tag == 0 || tag == 0xffffffff

abbrev pub least_len : ℕ → ℕ
least_len tag = if tag == COMPRESSION then 16 else (if tag == HASH then 12 else 8)

-- fewer than eight bytes, or an unused tag
abbrev pub ends_list : List ℕ → Bool
ends_list x = nat_lt (length x) 8 || is_unused (attr_head_of x).tag

-- below the tag's minimum, or above the remaining bytes
abbrev pub has_bad_len : AttrHead → ℕ → Bool
has_bad_len h left = nat_lt h.len (least_len h.tag) || nat_lt left h.len

abbrev pub attribute : List ℕ → Attribute
attribute x = let h = attr_head_of x in record { tag = h.tag; contents = slice_range x 8 h.len }

-- the attributes before the end of a list, or before its first malformed attribute
pub record AttributeScan : Type 0 where
  pub found : List Attribute
  -- a malformed attribute follows
  pub is_malformed : Bool

abbrev pub at_end : AttributeScan
at_end = record { found = []; is_malformed = false }

abbrev pub at_malformed : AttributeScan
at_malformed = record { found = []; is_malformed = true }

-- an attribute, and the scan after it
abbrev pub attribute_then : Attribute → AttributeScan → AttributeScan
attribute_then a later = record later { found = a ∷ later.found }

-- the scan after the first `skip` bytes, which belong to the previous attribute
unfoldable pub scan_after : ℕ → List ℕ → AttributeScan
scan_after skip [] = at_end
scan_after (suc skip) (b ∷ rest) = scan_after skip rest
scan_after zero (b ∷ rest) = let x = b ∷ rest in
    if ends_list x then at_end
    else (if has_bad_len (attr_head_of x) (length x) then at_malformed
    else attribute_then (attribute x) (scan_after (pred (attr_head_of x).len) rest))

abbrev pub scan_of : List ℕ → AttributeScan
scan_of x = scan_after 0 x

-- all attributes of a list, if none is malformed
abbrev pub all_formed : AttributeScan → Option (List Attribute)
all_formed scan = if scan.is_malformed then None else Some scan.found

-- the attributes of a list, or None if one is malformed
abbrev pub attributes : List ℕ → Option (List Attribute)
attributes x = all_formed (scan_of x)

-- the first attribute with the tag
abbrev pub data_of : ℕ → List Attribute → Option (List ℕ)
data_of tag all = option_map (λ (a : Attribute). a.contents) (find (λ a. a.tag == tag) all)

-- the start of the attributes, if any, or of the content
abbrev pub name_end : Head → ℕ
name_end h = if h.attributes_offset == 0 then h.offset else h.attributes_offset

abbrev pub name_field : Head → List ℕ → List ℕ
name_field h x = slice_range x 24 (name_end h)

abbrev pub is_nul : ℕ → Bool
is_nul b = b == 0

-- a NUL in the first 256 bytes
abbrev pub is_terminated : List ℕ → Bool
is_terminated field = list_any is_nul (take 256 field)

-- up to the content
abbrev pub attribute_field : Head → List ℕ → List ℕ
attribute_field h x =
    if h.attributes_offset == 0 then [] else slice_range x h.attributes_offset h.offset

pub data Entry : Type 0 where
  -- fewer than 24 bytes, or no magic
  absent : Entry
  damaged : DamageKind → Entry
  cell : ℕ → Entry

-- the checks after the head
abbrev pub component : Head → List ℕ → ℕ → Entry
component h x span = if not (is_terminated (name_field h x)) then damaged kinds.Name
    else (if not (is_some (attributes (attribute_field h x))) then damaged kinds.AttrLength
    else cell span)

abbrev pub present : Head → List ℕ → Result Extent DamageKind → Entry
present h x (Err kind) = damaged kind
present h x (Ok extent) = if is_free h then cell extent.span else component h x extent.span

abbrev pub front : List ℕ → Option Head
front x = if nat_lt (length x) 24 then None else head_at x

unfoldable pub entry : List ℕ → Entry
entry x = option_map_or (λ h. present h x (extent_of h (length x))) (front x) absent
