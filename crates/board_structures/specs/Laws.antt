-- The rules of sound structures, in the terms of their formats.
use Rattle.std.specs.Prelude.{◌≡◌, ◌⊎◌, ℕ, ◌+◌, ◌-◌, ◌*◌, ◌/◌, ◌%◌, ◌^◌, ◌<◌, ◌≤◌, true, List, length, take, slice_range, Some, None}
use Rattle.std.specs.List.{position}
use Rattle.flash_format.specs.Entry.{is_nul}
use Rattle.flash_format.specs.Flashmap.{le}
use Rattle.board_structures.specs.FirmwareTables.{entry_at, has_table_at, place_of, stated_len, unused_address, word_sum}
use Rattle.board_structures.specs.GoogleBinaryBlocks as blocks
use Rattle.board_structures.specs.GoogleBinaryBlocks.{digest_of, hardware_id_fault, header_of, key_fault_at}
use Rattle.board_structures.specs.MasterHeaders as headers
use Rattle.board_structures.specs.MasterHeaders.{pointer_in}
use Rattle.board_structures.specs.PackedKeys.{key_len}
use Rattle.board_structures.specs.SignedSlots as slots
use Rattle.board_structures.specs.SignedSlots.{checksum_of, preamble_of}
use Rattle.board_structures.specs.declared.gbb.FieldPlace.{FieldPlace}
use Rattle.board_structures.specs.declared.gbb.GbbHeader.{GbbHeader}
use Rattle.board_structures.specs.declared.master_header.HeaderFields.{HeaderFields}
use Rattle.board_structures.specs.declared.signed_slot.Keyblock.{Keyblock}
use Rattle.board_structures.specs.declared.signed_slot.Preamble.{Preamble}
use Rattle.board_structures.specs.declared.signed_slot.SlotBody.{SlotBody}
use Rattle.board_structures.specs.declared.packed_key.PackedKey.{PackedKey}

-- vboot accepts a key in a structure of `room` bytes
pub record IsUsableKey (room : ℕ) (key : PackedKey) : Type 0 where
  pub length : key_len key.algorithm ≡ Some key.size
  pub inside : key.offset + key.size ≤ room

-- a field begins after the header, and ends inside an area of this size
pub record LiesAfterHeader (size : ℕ) (place : FieldPlace) : Type 0 where
  pub after : 128 ≤ place.offset
  pub inside : place.offset + place.size ≤ size

-- the text in a field has a NUL, and its digest is stored from minor version 2 on
pub record HasDigest (h : GbbHeader) (field : List ℕ) : Type 0 where
  pub end : ℕ
  pub first : position is_nul field ≡ Some end
  pub stored : 2 ≤ h.minor → digest_of (take end field) ≡ h.digest

-- vboot can use the block with this header
pub record IsUsableBlock (h : GbbHeader) (x : List ℕ) : Type 0 where
  pub long : 128 ≤ length x
  pub signature : slice_range x 0 4 ≡ blocks.signature
  pub major : h.major ≡ 1
  pub header : h.len ≡ 128
  pub hardware_id : LiesAfterHeader (length x) h.hardware_id
  pub root_key : LiesAfterHeader (length x) h.root_key
  pub bitmap : LiesAfterHeader (length x) h.bitmap
  pub recovery_key : LiesAfterHeader (length x) h.recovery_key
  pub text : hardware_id_fault h x ≡ None
  pub root : key_fault_at h.root_key x ≡ None
  pub recovery : key_fault_at h.recovery_key x ≡ None

-- a preamble in `room` bytes, which signs all components of the body, or no length of it
pub record CoversBody (body : SlotBody) (room : ℕ) (p : Preamble) : Type 0 where
  pub major : p.major ≡ 2
  pub long : 104 ≤ p.len
  pub inside : p.len ≤ room
  pub covers : (p.body.signed ≡ 0) ⊎ ((body.end ≤ p.body.signed) × (p.body.signed ≤ body.size))

-- a slot whose keyblock has its checksum, and whose preamble covers the body
pub record IsCoveredSlot (body : SlotBody) (k : Keyblock) (x : List ℕ) : Type 0 where
  pub magic : slice_range x 0 8 ≡ slots.magic
  pub major : k.major ≡ 2
  pub long : 112 ≤ k.len
  pub inside : k.len ≤ length x
  pub data_key : IsUsableKey (k.len - 80) k.data_key
  pub checksum : slice_range x (48 + k.checksum.offset) (48 + k.checksum.offset + 64)
      ≡ checksum_of (take k.checksum.signed x)
  pub preamble : CoversBody body (length x - k.len)
      (preamble_of (slice_range x k.len (k.len + 104)))

-- a header and a pointer to it that are those of an area with this start
pub record IsHeaderOfArea (start at : ℕ) (h : HeaderFields) (x : List ℕ) : Type 0 where
  pub fits : at + 32 ≤ length x
  pub version : h.version ≡ headers.version
  pub begin : h.start ≡ start
  pub end : h.end ≡ start + length x
  pub alignment : h.alignment ≡ 64
  pub pointer : pointer_in x + length x ≡ at + 2 ^ 32

-- the update of n bytes at a place is whole
pub record IsWholeUpdate (place n : ℕ) (image : List ℕ) : Type 0 where
  pub version : le 4 0 (slice_range image place (place + 48)) ≡ 1
  pub inside : place + n ≤ length image
  pub words : n % 4 ≡ 0
  pub sum : word_sum (n / 4) place image % 2 ^ 32 ≡ 0

-- at this address is an empty slot, or a whole update
pub record IsAcceptedAddress (address : ℕ) (image : List ℕ) : Type 0 where
  pub aligned : address % 16 ≡ 0
  pub place : ℕ
  pub mapped : place_of (length image) address ≡ Some place
  pub inside : place + 48 ≤ length image
  pub update : (le 4 0 (slice_range image place (place + 48)) ≡ 0xffffffff)
      ⊎ IsWholeUpdate place (stated_len (slice_range image place (place + 48))) image

-- the table at a place has this number of entries, and a processor accepts each of its updates
pub record IsUsableTable (place count : ℕ) (image : List ℕ) : Type 0 where
  pub signature : has_table_at place image ≡ true
  pub stated : count ≡ (entry_at place image).count
  pub some : 1 ≤ count
  pub inside : place + 16 * count ≤ length image
  pub updates : (number : ℕ) → 1 ≤ number → number < count
      → (entry_at (place + 16 * number) image).kind ≡ 1
      → let address = (entry_at (place + 16 * number) image).address in
      (address ≡ unused_address) ⊎ IsAcceptedAddress address image
