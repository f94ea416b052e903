-- vboot's Google Binary Block, in the area GBB (`struct vb2_gbb_header`), little-endian: the
-- hardware id and the keys from which the firmware verifies the slots. This project's rules: the
-- order of the checks.
use Rattle.std.specs.Prelude.{ℕ, ◌+◌, Bool, true, false, ◌||◌, List, length, take, slice_range, Option, Some, None, Result, Ok, Err, min, nat_lt, ◌==◌, if◌then◌else◌, option_map}
use Rattle.std.specs.List.{position}
use Rattle.std.specs.Option.{option_map_or, option_or}
use Rattle.std.specs.Str.{bytes_eq}
use lib.Chars.{codes}
use Rattle.sha2.specs.Sha256.{sha256}
use Rattle.flash_format.specs.Entry.{is_nul}
use Rattle.flash_format.specs.Flashmap.{le}
use Rattle.board_structures.specs.Filling.{each_byte_is, page_len}
use Rattle.board_structures.specs.Magics.{has_magic_at}
use Rattle.board_structures.specs.PackedKeys.{key_fault, packed_key_len, packed_key_of}
use Rattle.board_structures.specs.declared.packed_key.KeyFault.{KeyFault}
use Rattle.board_structures.specs.declared.packed_key.KeyFault.TheVariants as keys
use Rattle.board_structures.specs.declared.gbb.Gbb.{Gbb}
use Rattle.board_structures.specs.declared.gbb.Gbb.TheVariants as states
use Rattle.board_structures.specs.declared.gbb.GbbField.{GbbField}
use Rattle.board_structures.specs.declared.gbb.GbbField.TheVariants as fields
use Rattle.board_structures.specs.declared.gbb.GbbFault.{GbbFault}
use Rattle.board_structures.specs.declared.gbb.GbbFault.TheVariants as faults
use Rattle.board_structures.specs.declared.gbb.FieldPlace.{FieldPlace}
use Rattle.board_structures.specs.declared.gbb.GbbHeader.{GbbHeader}

-- ---- the layout; a place is an offset in the area and a size, of 4 bytes each
--
-- | offset | bytes | field                                                              |
-- | ------ | ----- | ------------------------------------------------------------------ |
-- | 0      | 4     | the signature `$GBB`                                               |
-- | 4      | 2     | the major version, 1                                               |
-- | 6      | 2     | the minor version; from 2 on, the digest is set                    |
-- | 8      | 4     | the length of the header, 128                                      |
-- | 12     | 4     | flags, which weaken the verification                               |
-- | 16     | 8     | the place of the hardware id, a text with a NUL                    |
-- | 24     | 8     | the place of the root key                                          |
-- | 32     | 8     | the place of the bitmaps                                           |
-- | 40     | 8     | the place of the recovery key                                      |
-- | 48     | 32    | the SHA-256 of the hardware id, without its NUL                    |

abbrev pub signature : List ℕ
signature = codes "$GBB"

abbrev pub header_len : ℕ
header_len = 128

abbrev pub place_at : ℕ → List ℕ → FieldPlace
place_at at x = record { offset = le 4 at x; size = le 4 (at + 4) x }

-- after the signature
unfoldable pub header_of : List ℕ → GbbHeader
header_of x = record {
  major = le 2 4 x;
  minor = le 2 6 x;
  len = le 4 8 x;
  flags = le 4 12 x;
  hardware_id = place_at 16 x;
  root_key = place_at 24 x;
  bitmap = place_at 32 x;
  recovery_key = place_at 40 x;
  digest = slice_range x 48 80;
}

-- ---- the header

-- a field begins in the header, or ends after the area
abbrev pub is_outside : ℕ → FieldPlace → Bool
is_outside size place =
    nat_lt place.offset header_len || nat_lt size (place.offset + place.size)

abbrev pub outside_fault : ℕ → GbbField → FieldPlace → Option GbbFault
outside_fault size field place =
    if is_outside size place then Some (faults.FieldOutside field) else None

-- the first field outside an area of this size
abbrev pub place_fault : ℕ → GbbHeader → Option GbbFault
place_fault size h = option_or (outside_fault size fields.HardwareId h.hardware_id)
    (option_or (outside_fault size fields.RootKey h.root_key)
    (option_or (outside_fault size fields.Bitmap h.bitmap)
    (outside_fault size fields.RecoveryKey h.recovery_key)))

abbrev pub header_fault : ℕ → GbbHeader → Option GbbFault
header_fault size h = if h.major == 1
    then (if h.len == header_len then place_fault size h else Some (faults.HeaderLength h.len))
    else Some (faults.MajorVersion h.major)

-- of the first 128 bytes of an area of this size
unfoldable pub checked_header : ℕ → List ℕ → Result GbbHeader GbbFault
checked_header size x = if has_magic_at 0 signature x
    then option_map_or (λ fault. Err fault) (header_fault size (header_of x)) (Ok (header_of x))
    else Err faults.NoSignature

abbrev pub header_in : List ℕ → Result GbbHeader GbbFault
header_in x = if nat_lt (length x) header_len then Err faults.CutOff
    else checked_header (length x) (take header_len x)

-- ---- the hardware id

-- opaque, so that proofs don't unfold the standard's definition
unfoldable pub digest_of : List ℕ → List ℕ
digest_of text = sha256 text

-- of the text up to the first NUL, which is at `end` in the field
abbrev pub digest_fault : GbbHeader → List ℕ → ℕ → Option GbbFault
digest_fault h field end = if nat_lt h.minor 2 then None
    else (if bytes_eq (digest_of (take end field)) h.digest then None
    else Some faults.HardwareIdDigest)

-- of the first bytes of the field
abbrev pub text_fault : GbbHeader → List ℕ → Option GbbFault
text_fault h field =
    option_map_or (digest_fault h field) (position is_nul field) (Some faults.NoTerminator)

-- a text of 4096 bytes or more is none that vboot reads; an empty field has no text
abbrev pub hardware_id_fault : GbbHeader → List ℕ → Option GbbFault
hardware_id_fault h x = if h.hardware_id.size == 0 then None
    else text_fault h (slice_range x h.hardware_id.offset
    (h.hardware_id.offset + min h.hardware_id.size page_len))

-- ---- keys

abbrev pub key_fault_at : FieldPlace → List ℕ → Option KeyFault
key_fault_at place x = if nat_lt place.size packed_key_len then Some keys.CutOff
    else key_fault place.size
    (packed_key_of (slice_range x place.offset (place.offset + packed_key_len)))

abbrev pub key_in_field : GbbField → FieldPlace → List ℕ → Option GbbFault
key_in_field field place x = option_map
    (λ fault. faults.Key (record { field = field; fault = fault })) (key_fault_at place x)

-- ---- the state of the area

abbrev pub content_fault : GbbHeader → List ℕ → Option GbbFault
content_fault h x = option_or (hardware_id_fault h x)
    (option_or (key_in_field fields.RootKey h.root_key x)
    (key_in_field fields.RecoveryKey h.recovery_key x))

abbrev pub state_with : List ℕ → Result GbbHeader GbbFault → Gbb
state_with x (Ok h) =
    option_map_or states.Broken (content_fault h x) (states.Sound h.flags)
state_with x (Err fault) = states.Broken fault

unfoldable pub gbb_in : List ℕ → Gbb
gbb_in x = if each_byte_is 0xff x then states.Blank else state_with x (header_in x)

-- the firmware can't verify the slots; a blank area is in images that are built without vboot
abbrev pub is_bad : Gbb → Bool
is_bad states.Blank = false
is_bad (states.Broken fault) = true
is_bad (states.Sound flags) = false
