-- The state of a signed slot.
use Rattle.std.proofs.Common.{◌≡◌, ◌∙◌, ℕ, ◌+◌, ◌-◌, ◌≤◌, Bool, true, false, List, length, take, Option, Some, None, Ok, Err, refl, sym, ap, arith}
use Rattle.std.specs.Prelude.{slice_range, Result, IfOk, if◌then◌else◌}
use Rattle.std.specs.Option.{option_map_or}
use Rattle.std.proofs.lemmas.Bool.{le-ltb}
use Rattle.flash_device.specs.Regions.{Range, LiesIn, bytes_in}
use Rattle.flash_device.proofs.BytesLemmas.{slice_range_is}
use Rattle.flash_device.proofs.DeviceLemmas.{length-bytes_in}
use Rattle.board_structures.specs.Filling.{each_byte_is}
use Rattle.board_structures.specs.Magics.{has_magic_at}
use Rattle.board_structures.specs.SignedSlots.{checked_keyblock, checksum_fault, checksum_result, keyblock_fault, keyblock_in, keyblock_of, magic, preamble_state, signed_slot_in, state_at}
use Rattle.board_structures.specs.declared.signed_slot.Keyblock.{Keyblock}
use Rattle.board_structures.specs.declared.signed_slot.Signature.{Signature}
use Rattle.board_structures.specs.declared.signed_slot.SlotBody.{SlotBody}
use Rattle.board_structures.specs.declared.signed_slot.SignedSlot.TheVariants as states
use Rattle.board_structures.specs.declared.signed_slot.SlotFault.{SlotFault}
use Rattle.board_structures.specs.declared.signed_slot.SlotFault.TheVariants as faults
use Rattle.board_structures.proofs.Parts.{part_read}

-- ---- the keyblock

checked_by : (signed : Bool) (fault : Option SlotFault) (size : ℕ) (k : Keyblock) → keyblock_fault size k ≡ fault
    → IfOk (if signed then option_map_or (λ fault. Err fault) fault (Ok k) else Err faults.NoMagic) (λ k. keyblock_fault size k ≡ None)
checked_by false fault size k is = tt
checked_by true None size k is = is
checked_by true (Some fault) size k is = tt

pub keyblock_checked : (size n : ℕ) (x : List ℕ) (result : Result Keyblock SlotFault) → result ≡ checked_keyblock size x → size ≡ n → IfOk result (λ k. keyblock_fault n k ≡ None)
unfolding checked_keyblock
keyblock_checked size n x result is same = rw (is, same) (checked_by (has_magic_at 0 magic x) (keyblock_fault n (keyblock_of x)) n (keyblock_of x) refl)

pub keyblock_told : (image bytes : List ℕ) (r : Range) (start size : ℕ) → LiesIn r image → size ≡ r.size → 112 ≤ size → start ≡ r.start → bytes ≡ slice_range image start (start + 112) → checked_keyblock size bytes ≡ keyblock_in (bytes_in r image)
keyblock_told image bytes r start size inside is long is_start read =
    let x = bytes_in r image in
    let len : length x ≡ r.size = length-bytes_in r image inside in
    let head : bytes ≡ take 112 x = part_read image bytes r start 0 112 (omega (arith, is_start)) (omega (arith, is, long)) read ∙ slice_range_is x 0 112 in
    ap (λ n. checked_keyblock n bytes) (is ∙ sym len)
    ∙ ap (checked_keyblock (length x)) head
    ∙ rw (le-ltb (length x) 112 (omega (arith, len, is, long))) refl

pub checksum_told : (image stored bytes : List ℕ) (r : Range) (checksum : Signature) (place start : ℕ) → place ≡ r.start + (48 + checksum.offset) → start ≡ r.start → 112 + checksum.offset ≤ r.size → checksum.signed ≤ r.size
    → stored ≡ slice_range image place (place + 64) → bytes ≡ slice_range image start (start + checksum.signed) → checksum_result stored bytes ≡ checksum_fault checksum (bytes_in r image)
checksum_told image stored bytes r checksum place start is_place is_start inside within digest read =
    let x = bytes_in r image in
    let there = part_read image stored r place (48 + checksum.offset) 64 is_place (omega (arith, inside)) digest in
    let signed : bytes ≡ take checksum.signed x = part_read image bytes r start 0 checksum.signed (omega (arith, is_start)) (omega (arith, within)) read ∙ slice_range_is x 0 checksum.signed in
    ap (λ s. checksum_result s bytes) there ∙ ap (checksum_result (slice_range x (48 + checksum.offset) (48 + checksum.offset + 64))) signed

-- ---- the preamble

pub preamble_told : (image bytes : List ℕ) (r : Range) (body : SlotBody) (at place room : ℕ) → LiesIn r image → at ≤ r.size → room ≡ r.size - at → 104 ≤ room → place ≡ r.start + at
    → bytes ≡ slice_range image place (place + 104) → preamble_state body room bytes ≡ state_at body at (bytes_in r image)
preamble_told image bytes r body at place room inside within is long is_place read =
    let x = bytes_in r image in
    let rest : room ≡ length x - at = omega (arith, is, length-bytes_in r image inside) in
    ap (λ n. preamble_state body n bytes) rest
    ∙ ap (preamble_state body (length x - at)) (part_read image bytes r place at 104 is_place (omega (arith, is, long, within)) read)
    ∙ rw (le-ltb (length x - at) 104 (omega (arith, rest, long))) refl

-- ---- the area

pub erased_slot : (body : SlotBody) (x : List ℕ) → each_byte_is 0xff x ≡ true → states.Blank ≡ signed_slot_in body x
unfolding signed_slot_in
erased_slot body x erased = rw erased refl

pub cleared_slot : (body : SlotBody) (x : List ℕ) → each_byte_is 0xff x ≡ false → each_byte_is 0x00 x ≡ true → states.Blank ≡ signed_slot_in body x
unfolding signed_slot_in
cleared_slot body x filled cleared = rw (filled, cleared) refl

pub refused_slot : (body : SlotBody) (x : List ℕ) (fault : SlotFault) → each_byte_is 0xff x ≡ false → each_byte_is 0x00 x ≡ false → keyblock_in x ≡ Err fault → states.Broken fault ≡ signed_slot_in body x
unfolding signed_slot_in
refused_slot body x fault filled set keyblock = rw (filled, set, keyblock) refl

pub broken_slot : (body : SlotBody) (x : List ℕ) (k : Keyblock) (fault : SlotFault) → each_byte_is 0xff x ≡ false → each_byte_is 0x00 x ≡ false → keyblock_in x ≡ Ok k → checksum_fault k.checksum x ≡ Some fault → states.Broken fault ≡ signed_slot_in body x
unfolding signed_slot_in
broken_slot body x k fault filled set keyblock checksum = rw (filled, set, keyblock, checksum) refl

pub signed_slot : (body : SlotBody) (x : List ℕ) (k : Keyblock) → each_byte_is 0xff x ≡ false → each_byte_is 0x00 x ≡ false → keyblock_in x ≡ Ok k → checksum_fault k.checksum x ≡ None → state_at body k.len x ≡ signed_slot_in body x
unfolding signed_slot_in
signed_slot body x k filled set keyblock checksum = rw (filled, set, keyblock, checksum) refl
