-- The signatures of a slot of vboot, in the areas VBLOCK_A and VBLOCK_B (`struct vb2_keyblock` and
-- `struct vb2_fw_preamble`), little-endian. They cover the first bytes of FW_MAIN_A or FW_MAIN_B,
-- the body. Signatures of RSA are not computed. This project's rules: the order of the checks, and
-- that a keyblock signs at most 4096 bytes, which is more than any key of vboot needs.
use Rattle.std.specs.Prelude.{ℕ, ◌+◌, ◌-◌, Bool, true, false, ◌||◌, List, length, take, slice_range, Option, Some, None, Result, Ok, Err, nat_lt, ◌==◌, if◌then◌else◌, option_map}
use Rattle.std.specs.Option.{option_map_or, option_or}
use Rattle.std.specs.Str.{bytes_eq}
use lib.Chars.{codes}
use Rattle.sha2.specs.Sha512.{sha512}
use Rattle.flash_format.specs.Flashmap.{le}
use Rattle.board_structures.specs.Filling.{each_byte_is, page_len}
use Rattle.board_structures.specs.Magics.{has_magic_at}
use Rattle.board_structures.specs.PackedKeys.{key_fault, packed_key_of}
use Rattle.board_structures.specs.declared.signed_slot.Keyblock.{Keyblock}
use Rattle.board_structures.specs.declared.signed_slot.Preamble.{Preamble}
use Rattle.board_structures.specs.declared.signed_slot.Signature.{Signature}
use Rattle.board_structures.specs.declared.signed_slot.SlotBody.{SlotBody}
use Rattle.board_structures.specs.declared.signed_slot.SignedSlot.{SignedSlot}
use Rattle.board_structures.specs.declared.signed_slot.SignedSlot.TheVariants as states
use Rattle.board_structures.specs.declared.signed_slot.SlotFault.{SlotFault}
use Rattle.board_structures.specs.declared.signed_slot.SlotFault.TheVariants as faults
use Rattle.board_structures.specs.declared.signed_slot.SlotSignature.{SlotSignature}
use Rattle.board_structures.specs.declared.signed_slot.SlotSignature.TheVariants as signatures

-- ---- the layout of a signature (`struct vb2_signature`); the other bytes are reserved
--
-- | offset | bytes | field                                                    |
-- | ------ | ----- | -------------------------------------------------------- |
-- | 0      | 4     | the offset of the signature, from this structure on      |
-- | 8      | 4     | the length of the signature                              |
-- | 16     | 4     | the length of the signed bytes                           |

abbrev pub signature_at : ℕ → List ℕ → Signature
signature_at at x =
    record { offset = le 4 at x; size = le 4 (at + 8) x; signed = le 4 (at + 16) x }

-- ---- the layout of the keyblock, at the start of the area
--
-- | offset | bytes | field                                                               |
-- | ------ | ----- | ------------------------------------------------------------------- |
-- | 0      | 8     | `CHROMEOS`                                                          |
-- | 8      | 4     | the major version, 2                                                |
-- | 16     | 4     | the length of the keyblock, after which the preamble begins         |
-- | 24     | 24    | the signature by the root key                                       |
-- | 48     | 24    | the checksum, as a signature: a SHA-512 of the keyblock's first bytes |
-- | 80     | 32    | the data key, which signs the preamble and the body                 |

abbrev pub magic : List ℕ
magic = codes "CHROMEOS"

abbrev pub keyblock_header_len : ℕ
keyblock_header_len = 112

-- after the magic
unfoldable pub keyblock_of : List ℕ → Keyblock
keyblock_of x = record {
  major = le 4 8 x;
  len = le 4 16 x;
  signature = signature_at 24 x;
  checksum = signature_at 48 x;
  data_key = packed_key_of (slice_range x 80 112);
}

-- ---- the layout of the preamble, after the keyblock
--
-- | offset | bytes | field                                 |
-- | ------ | ----- | ------------------------------------- |
-- | 0      | 4     | the length of the preamble            |
-- | 8      | 24    | the signature of the preamble         |
-- | 32     | 4     | the major version, 2                  |
-- | 80     | 24    | the signature of the body             |

abbrev pub preamble_header_len : ℕ
preamble_header_len = 104

unfoldable pub preamble_of : List ℕ → Preamble
preamble_of x = record {
  len = le 4 0 x;
  signature = signature_at 8 x;
  major = le 4 32 x;
  body = signature_at 80 x;
}

-- ---- places; a structure has `room` bytes, and its signature is described at `at` in it

abbrev pub outside_fault : ℕ → ℕ → SlotSignature → Signature → Option SlotFault
outside_fault room at name s =
    if nat_lt room (at + s.offset + s.size) then Some (faults.SignatureOutside name) else None

abbrev pub signed_fault : ℕ → SlotSignature → Signature → Option SlotFault
signed_fault room name s =
    if nat_lt room s.signed then Some (faults.SignedOutside name) else None

-- ---- the keyblock

abbrev pub keyblock_version_fault : Keyblock → Option SlotFault
keyblock_version_fault k =
    if k.major == 2 then None else Some (faults.KeyblockVersion k.major)

-- in an area of this size
abbrev pub keyblock_len_fault : ℕ → Keyblock → Option SlotFault
keyblock_len_fault size k = if nat_lt k.len keyblock_header_len || nat_lt size k.len
    then Some (faults.KeyblockLength k.len) else None

abbrev pub checksum_len_fault : Keyblock → Option SlotFault
checksum_len_fault k = if k.checksum.size == 64
    then (if nat_lt page_len k.checksum.signed then Some (faults.TooLong k.checksum.signed)
    else None)
    else Some (faults.ChecksumLength k.checksum.size)

abbrev pub data_key_fault : Keyblock → Option SlotFault
data_key_fault k = option_map faults.DataKey (key_fault (k.len - 80) k.data_key)

-- the first fault of the header of a keyblock
abbrev pub keyblock_fault : ℕ → Keyblock → Option SlotFault
keyblock_fault size k = option_or (keyblock_version_fault k)
    (option_or (keyblock_len_fault size k)
    (option_or (outside_fault k.len 24 signatures.Keyblock k.signature)
    (option_or (signed_fault k.len signatures.Keyblock k.signature)
    (option_or (outside_fault k.len 48 signatures.Checksum k.checksum)
    (option_or (signed_fault k.len signatures.Checksum k.checksum)
    (option_or (checksum_len_fault k) (data_key_fault k)))))))

-- of the first 112 bytes of an area of this size
unfoldable pub checked_keyblock : ℕ → List ℕ → Result Keyblock SlotFault
checked_keyblock size x = if has_magic_at 0 magic x
    then option_map_or (λ fault. Err fault) (keyblock_fault size (keyblock_of x))
    (Ok (keyblock_of x))
    else Err faults.NoMagic

abbrev pub keyblock_in : List ℕ → Result Keyblock SlotFault
keyblock_in x = if nat_lt (length x) keyblock_header_len then Err faults.CutOff
    else checked_keyblock (length x) (take keyblock_header_len x)

-- opaque, so that proofs don't unfold the standard's definition
unfoldable pub checksum_of : List ℕ → List ℕ
checksum_of bytes = sha512 bytes

abbrev pub checksum_result : List ℕ → List ℕ → Option SlotFault
checksum_result stored bytes =
    if bytes_eq (checksum_of bytes) stored then None else Some faults.Checksum

-- the stored SHA-512 is that of the signed bytes, the first ones of the area
abbrev pub checksum_fault : Signature → List ℕ → Option SlotFault
checksum_fault checksum x = let at = 48 + checksum.offset in
    checksum_result (slice_range x at (at + 64)) (take checksum.signed x)

-- ---- the preamble, in `room` bytes after the keyblock

abbrev pub preamble_version_fault : Preamble → Option SlotFault
preamble_version_fault p =
    if p.major == 2 then None else Some (faults.PreambleVersion p.major)

abbrev pub preamble_len_fault : ℕ → Preamble → Option SlotFault
preamble_len_fault room p = if nat_lt p.len preamble_header_len || nat_lt room p.len
    then Some (faults.PreambleLength p.len) else None

abbrev pub preamble_fault : ℕ → Preamble → Option SlotFault
preamble_fault room p = option_or (preamble_version_fault p)
    (option_or (preamble_len_fault room p)
    (option_or (outside_fault p.len 8 signatures.Preamble p.signature)
    (option_or (signed_fault p.len signatures.Preamble p.signature)
    (outside_fault p.len 80 signatures.Body p.body))))

-- ---- the body

-- No length is signed if the body is verified by a digest of its metadata: nothing is checked.
abbrev pub body_state : SlotBody → Preamble → SignedSlot
body_state body p = if p.body.signed == 0 then states.BodyNotChecked
    else (if nat_lt p.body.signed body.end then states.Broken (faults.BodyShort p.body.signed)
    else (if nat_lt body.size p.body.signed then states.Broken (faults.BodyLong p.body.signed)
    else states.Sound p.body.signed))

-- of the first 104 bytes
unfoldable pub preamble_state : SlotBody → ℕ → List ℕ → SignedSlot
preamble_state body room x =
    option_map_or states.Broken (preamble_fault room (preamble_of x))
    (body_state body (preamble_of x))

-- of the preamble at this offset in the area
abbrev pub state_at : SlotBody → ℕ → List ℕ → SignedSlot
state_at body at x = if nat_lt (length x - at) preamble_header_len
    then states.Broken faults.PreambleCutOff
    else preamble_state body (length x - at) (slice_range x at (at + preamble_header_len))

-- ---- the state of the area

abbrev pub state_with : SlotBody → List ℕ → Result Keyblock SlotFault → SignedSlot
state_with body x (Ok k) =
    option_map_or states.Broken (checksum_fault k.checksum x) (state_at body k.len x)
state_with body x (Err fault) = states.Broken fault

unfoldable pub signed_slot_in : SlotBody → List ℕ → SignedSlot
signed_slot_in body x = if each_byte_is 0xff x then states.Blank
    else (if each_byte_is 0x00 x then states.Blank else state_with body x (keyblock_in x))

-- the firmware refuses the slot; an empty slot is legal, because the other one can boot
abbrev pub is_bad : SignedSlot → Bool
is_bad states.Blank = false
is_bad (states.Broken fault) = true
is_bad states.BodyNotChecked = false
is_bad (states.Sound len) = false
