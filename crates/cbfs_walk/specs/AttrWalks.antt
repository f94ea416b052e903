-- Lists of attributes, and the state of a walk over the attributes of a component.
use Rattle.std.specs.Prelude.{ℕ, ◌+◌, ◌≤◌, ◌≡◌, false, List, slice_get, drop, length, slice_range, Option, Some, None, Result, Ok, Err, ⊤, if◌then◌else◌}
use Rattle.std.specs.Option.{option_map}
use Rattle.flash_format.specs.declared.attribute.AttrHead.{AttrHead}
use Rattle.flash_format.specs.Entry.{Attribute, attributes, is_unused, least_len, attr_head_of, ends_list, has_bad_len, scan_of}
use Rattle.flash_device.specs.declared.flash.FlashFault.{FlashFault}
use Rattle.cbfs_walk.specs.Cells.{content_start, attributes_start}
use Rattle.cbfs_walk.specs.declared.attribute_walk.AttrWalk.{AttrWalk}
use Rattle.cbfs_walk.specs.declared.cell.Cell.{Cell}
use Rattle.cbfs_walk.specs.declared.attribute_walk.AttributeItem.{AttributeItem}
use Rattle.cbfs_walk.specs.declared.attribute_walk.AttributeItem.TheVariants as listed

-- a fault doesn't move the walk; the end moves it to the content
abbrev pub attr_moved : AttrWalk → Result (Option AttrHead) FlashFault → AttrWalk
attr_moved w (Ok (Some h)) = record w { at = w.at + h.len }
attr_moved w (Ok None) = record w { at = w.cell.head.offset }
attr_moved w (Err fault) = w

pub record IsAttrIn (at end : ℕ) (h : AttrHead) : Type 0 where
  pub used : is_unused h.tag ≡ false
  pub head : 8 ≤ h.len
  pub least : least_len h.tag ≤ h.len
  pub inside : at + h.len ≤ end

-- the remaining attributes, or None if malformed
abbrev pub attributes_left : List ℕ → AttrWalk → Option (List Attribute)
attributes_left x w = attributes (slice_range x (w.cell.at + w.at) (content_start w.cell))

-- the length includes the head's eight bytes
abbrev pub head_of_attribute : Attribute → AttrHead
head_of_attribute a = record { tag = a.tag; len = 8 + length a.contents }

-- if well-formed attributes remain, the walk finds the head of the first attribute, and the other
-- attributes remain
abbrev pub GivesNext : Option (List Attribute) → Option (List Attribute) → Option AttrHead → Type 0
GivesNext left left_now found = (all : List Attribute) → left ≡ Some all
    → (found ≡ option_map head_of_attribute (slice_get all 0)) × (left_now ≡ Some (drop 1 all))

-- the first item of a list: an attribute, the end of the list, or a malformed attribute
abbrev pub next_attribute : List ℕ → AttributeItem
next_attribute x = let h = attr_head_of x in if ends_list x then listed.End
    else (if has_bad_len h (length x) then listed.Malformed else listed.Attribute h)

abbrev pub IsListedAttribute : ℕ → ℕ → AttributeItem → Type 0
IsListedAttribute at end (listed.Attribute head) = IsAttrIn at end head
IsListedAttribute at end _ = ⊤

-- ---- the first attribute with a tag

-- the attributes of a component in the region, up to the first malformed attribute
abbrev pub attributes_in : List ℕ → Cell → List Attribute
attributes_in x c = (scan_of (slice_range x (attributes_start c) (content_start c))).found

-- the position after a search: the offset of the found attribute, or of the content
abbrev pub searched_to : Cell → Result (Option (ℕ × AttrHead)) FlashFault → ℕ
searched_to c (Ok (Some found)) = found.0
searched_to c _ = content_start c
