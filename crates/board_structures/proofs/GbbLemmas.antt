-- The state of a Google Binary Block.
use Rattle.std.proofs.Common.{◌≡◌, ◌≢◌, ◌∙◌, ℕ, ◌+◌, ◌≤◌, Bool, true, false, List, length, take, Option, Some, None, Ok, Err, min, refl, sym, ap, arith}
use Rattle.std.specs.Prelude.{slice_range, Result, IfOk, ◌==◌, if◌then◌else◌}
use Rattle.std.specs.Option.{option_map_or}
use Rattle.std.proofs.lemmas.Bool.{le-ltb, eqb-true}
use Rattle.flash_device.specs.Regions.{Range, LiesIn, bytes_in}
use Rattle.flash_device.proofs.BytesLemmas.{slice_range_is}
use Rattle.flash_device.proofs.DeviceLemmas.{length-bytes_in}
use Rattle.board_structures.specs.Filling.{each_byte_is}
use Rattle.board_structures.specs.Magics.{has_magic_at}
use Rattle.board_structures.specs.PackedKeys.{key_fault, packed_key_of}
use Rattle.board_structures.specs.GoogleBinaryBlocks.{checked_header, content_fault, gbb_in, hardware_id_fault, header_fault, header_in, header_of, key_fault_at, signature, text_fault}
use Rattle.board_structures.specs.declared.gbb.Gbb.TheVariants as states
use Rattle.board_structures.specs.declared.gbb.GbbFault.{GbbFault}
use Rattle.board_structures.specs.declared.gbb.GbbFault.TheVariants as faults
use Rattle.board_structures.specs.declared.gbb.FieldPlace.{FieldPlace}
use Rattle.board_structures.specs.declared.gbb.GbbHeader.{GbbHeader}
use Rattle.board_structures.proofs.Parts.{part_read}
use Rattle.board_structures.proofs.Rules.{by_bool}

-- ---- keys

pub key_told : (image bytes : List ℕ) (r : Range) (place : FieldPlace) (at : ℕ) → at ≡ r.start + place.offset → 32 ≤ place.size → place.offset + place.size ≤ r.size → bytes ≡ slice_range image at (at + 32) → key_fault place.size (packed_key_of bytes) ≡ key_fault_at place (bytes_in r image)
key_told image bytes r place at is long fits read =
    ap (λ b. key_fault place.size (packed_key_of b)) (part_read image bytes r at place.offset 32 is (omega (arith, long, fits)) read)
    ∙ rw (le-ltb place.size 32 long) refl

-- ---- the header

checked_by : (signed : Bool) (fault : Option GbbFault) (size : ℕ) (h : GbbHeader) → header_fault size h ≡ fault
    → IfOk (if signed then option_map_or (λ fault. Err fault) fault (Ok h) else Err faults.NoSignature) (λ h. header_fault size h ≡ None)
checked_by false fault size h is = tt
checked_by true None size h is = is
checked_by true (Some fault) size h is = tt

pub header_checked : (size n : ℕ) (x : List ℕ) (result : Result GbbHeader GbbFault) → result ≡ checked_header size x → size ≡ n → IfOk result (λ h. header_fault n h ≡ None)
unfolding checked_header
header_checked size n x result is same = rw (is, same) (checked_by (has_magic_at 0 signature x) (header_fault n (header_of x)) n (header_of x) refl)

pub header_told : (image bytes : List ℕ) (r : Range) (start size : ℕ) → LiesIn r image → size ≡ r.size → 128 ≤ size → start ≡ r.start → bytes ≡ slice_range image start (start + 128) → checked_header size bytes ≡ header_in (bytes_in r image)
header_told image bytes r start size inside is long is_start read =
    let x = bytes_in r image in
    let len : length x ≡ r.size = length-bytes_in r image inside in
    let head : bytes ≡ take 128 x = part_read image bytes r start 0 128 (omega (arith, is_start)) (omega (arith, is, long)) read ∙ slice_range_is x 0 128 in
    ap (λ n. checked_header n bytes) (is ∙ sym len)
    ∙ ap (checked_header (length x)) head
    ∙ rw (le-ltb (length x) 128 (omega (arith, len, is, long))) refl

-- ---- the hardware id

pub text_told : (image bytes : List ℕ) (r : Range) (h : GbbHeader) (at n : ℕ) → at ≡ r.start + h.hardware_id.offset → h.hardware_id.size ≢ 0 → h.hardware_id.offset + h.hardware_id.size ≤ r.size → n ≡ min h.hardware_id.size 4096
    → bytes ≡ slice_range image at (at + n) → text_fault h bytes ≡ hardware_id_fault h (bytes_in r image)
text_told image bytes r h at n is some fits size read =
    let place = h.hardware_id in
    let x = bytes_in r image in
    by_bool (place.size == 0) (text_fault h bytes ≡ hardware_id_fault h x) (λ empty. absurd (some (eqb-true _ _ empty))) (λ filled.
    ap (text_fault h) (part_read image bytes r at place.offset n is (omega (arith, fits, size)) read)
    ∙ ap (λ m. text_fault h (slice_range x place.offset (place.offset + m))) size
    ∙ rw filled refl)

-- ---- the area

pub blank_block : (x : List ℕ) → each_byte_is 0xff x ≡ true → states.Blank ≡ gbb_in x
unfolding gbb_in
blank_block x blank = rw blank refl

pub unreadable_block : (x : List ℕ) (fault : GbbFault) → each_byte_is 0xff x ≡ false → header_in x ≡ Err fault → states.Broken fault ≡ gbb_in x
unfolding gbb_in
unreadable_block x fault filled header = rw (filled, header) refl

pub broken_block : (x : List ℕ) (h : GbbHeader) (fault : GbbFault) → each_byte_is 0xff x ≡ false → header_in x ≡ Ok h → content_fault h x ≡ Some fault → states.Broken fault ≡ gbb_in x
unfolding gbb_in
broken_block x h fault filled header content = rw (filled, header, content) refl

pub sound_block : (x : List ℕ) (h : GbbHeader) → each_byte_is 0xff x ≡ false → header_in x ≡ Ok h → content_fault h x ≡ None → states.Sound h.flags ≡ gbb_in x
unfolding gbb_in
sound_block x h filled header content = rw (filled, header, content) refl
