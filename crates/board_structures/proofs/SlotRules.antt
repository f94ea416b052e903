-- The rules of a signed slot and of a master header.
use Rattle.std.proofs.Common.{◌≡◌, ◌⊎◌, ℕ, ◌+◌, ◌-◌, ◌^◌, ◌≤◌, inl, inr, true, false, List, length, take, None, sym, arith}
use Rattle.std.specs.Prelude.{slice_range, nat_lt, ◌==◌}
use Rattle.std.specs.Option.{option_or}
use Rattle.std.specs.Str.{bytes_eq}
use Rattle.std.proofs.lemmas.Bool.{eqb-true, ltb-false}
use Rattle.std.proofs.lemmas.Slice.Eq.{bytes_eq-Decides}
use Rattle.board_structures.specs.Filling.{each_byte_is}
use Rattle.board_structures.specs.Magics.{has_magic_at}
use Rattle.board_structures.specs.MasterHeaders as headers
use Rattle.board_structures.specs.MasterHeaders.{alignment_fault, end_fault, fields_fault, fields_of, header_fault, master_header_in, pointer_fault, pointer_in, start_fault, version_fault}
use Rattle.board_structures.specs.SignedSlots as slots
use Rattle.board_structures.specs.SignedSlots.{body_state, checked_keyblock, checksum_fault, checksum_len_fault, checksum_of, data_key_fault, keyblock_fault, keyblock_in, keyblock_len_fault, keyblock_of, keyblock_version_fault, outside_fault, preamble_fault, preamble_len_fault, preamble_of, preamble_state, preamble_version_fault, signed_fault, signed_slot_in, state_at}
use Rattle.board_structures.specs.Laws.{CoversBody, IsCoveredSlot, IsHeaderOfArea}
use Rattle.board_structures.specs.declared.master_header.HeaderFields.{HeaderFields}
use Rattle.board_structures.specs.declared.master_header.MasterHeader.TheVariants as header_states
use Rattle.board_structures.specs.declared.signed_slot.Keyblock.{Keyblock}
use Rattle.board_structures.specs.declared.signed_slot.Preamble.{Preamble}
use Rattle.board_structures.specs.declared.signed_slot.SlotBody.{SlotBody}
use Rattle.board_structures.specs.declared.signed_slot.SlotFault.TheVariants as faults
use Rattle.board_structures.specs.declared.signed_slot.SlotSignature.TheVariants as signatures
use Rattle.board_structures.specs.PackedKeys.{key_fault}
use Rattle.board_structures.proofs.BlockRules.{by_option, map_none, or_none, usable_key}
use Rattle.board_structures.proofs.Rules.{by_bool, magic_in_front}

-- ---- the preamble

body_covered : (body : SlotBody) (p : Preamble) → slots.is_bad (body_state body p) ≡ false → (p.body.signed ≡ 0) ⊎ ((body.end ≤ p.body.signed) × (p.body.signed ≤ body.size))
body_covered body p sound =
    let n = p.body.signed in
    let P : Type 0 = (n ≡ 0) ⊎ ((body.end ≤ n) × (n ≤ body.size)) in
    by_bool (n == 0) P (λ none. inl (eqb-true _ _ none)) (λ some.
    by_bool (nat_lt n body.end) P (λ short. absurd (let e = rw (some, short) at sound in cc)) (λ covers.
    by_bool (nat_lt body.size n) P (λ long. absurd (let e = rw (some, covers, long) at sound in cc)) (λ inside.
    inr (ltb-false n body.end covers, ltb-false body.size n inside))))

version_two : (p : Preamble) → preamble_version_fault p ≡ None → p.major ≡ 2
version_two p none = by_bool (p.major == 2) (p.major ≡ 2) (λ same. eqb-true _ _ same) (λ other. absurd (let e = rw other at none in cc))

preamble_fits : (room : ℕ) (p : Preamble) → preamble_len_fault room p ≡ None → (104 ≤ p.len) × (p.len ≤ room)
preamble_fits room p none =
    let P : Type 0 = (104 ≤ p.len) × (p.len ≤ room) in
    by_bool (nat_lt p.len 104) P (λ short. absurd (let e = rw short at none in cc)) (λ long.
    by_bool (nat_lt room p.len) P (λ outside. absurd (let e = rw (long, outside) at none in cc)) (λ inside.
    (ltb-false p.len 104 long, ltb-false room p.len inside)))

covering : (body : SlotBody) (room : ℕ) (x : List ℕ) → slots.is_bad (preamble_state body room x) ≡ false → CoversBody body room (preamble_of x)
unfolding preamble_state
covering body room x sound =
    let p = preamble_of x in
    by_option (preamble_fault room p) (CoversBody body room p) (λ fault broken. absurd (let e = rw broken at sound in cc)) (λ none.
    let places = option_or (outside_fault p.len 8 signatures.Preamble p.signature) (option_or (signed_fault p.len signatures.Preamble p.signature) (outside_fault p.len 80 signatures.Body p.body)) in
    let first = or_none (preamble_version_fault p) (option_or (preamble_len_fault room p) places) none in
    let second = or_none (preamble_len_fault room p) places first.1 in
    let fits = preamble_fits room p second.0 in
    record { major = version_two p first.0; long = fits.0; inside = fits.1; covers = body_covered body p (rw none at sound) })

-- ---- the keyblock

keyblock_two : (k : Keyblock) → keyblock_version_fault k ≡ None → k.major ≡ 2
keyblock_two k none = by_bool (k.major == 2) (k.major ≡ 2) (λ same. eqb-true _ _ same) (λ other. absurd (let e = rw other at none in cc))

keyblock_fits : (size : ℕ) (k : Keyblock) → keyblock_len_fault size k ≡ None → (112 ≤ k.len) × (k.len ≤ size)
keyblock_fits size k none =
    let P : Type 0 = (112 ≤ k.len) × (k.len ≤ size) in
    by_bool (nat_lt k.len 112) P (λ short. absurd (let e = rw short at none in cc)) (λ long.
    by_bool (nat_lt size k.len) P (λ outside. absurd (let e = rw (long, outside) at none in cc)) (λ inside.
    (ltb-false k.len 112 long, ltb-false size k.len inside)))

slot_with : (body : SlotBody) (k : Keyblock) (x : List ℕ) → slice_range x 0 8 ≡ slots.magic → keyblock_fault (length x) k ≡ None → checksum_fault k.checksum x ≡ None → slots.is_bad (state_at body k.len x) ≡ false → IsCoveredSlot body k x
slot_with body k x signed none checksum sound =
    let lengths = option_or (checksum_len_fault k) (data_key_fault k) in
    let checksum_data = option_or (signed_fault k.len signatures.Checksum k.checksum) lengths in
    let checksum_place = option_or (outside_fault k.len 48 signatures.Checksum k.checksum) checksum_data in
    let keyblock_data = option_or (signed_fault k.len signatures.Keyblock k.signature) checksum_place in
    let keyblock_place = option_or (outside_fault k.len 24 signatures.Keyblock k.signature) keyblock_data in
    let first = or_none (keyblock_version_fault k) (option_or (keyblock_len_fault (length x) k) keyblock_place) none in
    let second = or_none (keyblock_len_fault (length x) k) keyblock_place first.1 in
    let third = or_none (outside_fault k.len 24 signatures.Keyblock k.signature) keyblock_data second.1 in
    let fourth = or_none (signed_fault k.len signatures.Keyblock k.signature) checksum_place third.1 in
    let fifth = or_none (outside_fault k.len 48 signatures.Checksum k.checksum) checksum_data fourth.1 in
    let sixth = or_none (signed_fault k.len signatures.Checksum k.checksum) lengths fifth.1 in
    let seventh = or_none (checksum_len_fault k) (data_key_fault k) sixth.1 in
    let fits = keyblock_fits (length x) k second.0 in
    let stored = slice_range x (48 + k.checksum.offset) (48 + k.checksum.offset + 64) in
    let computed = checksum_of (take k.checksum.signed x) in
    by_bool (nat_lt (length x - k.len) 104) (IsCoveredSlot body k x) (λ short. absurd (let e = rw short at sound in cc)) (λ long.
    by_bool (bytes_eq computed stored) (IsCoveredSlot body k x) (λ same. record {
      magic = signed;
      major = keyblock_two k first.0;
      long = fits.0;
      inside = fits.1;
      data_key = usable_key (k.len - 80) k.data_key (map_none faults.DataKey (key_fault (k.len - 80) k.data_key) seventh.1);
      checksum = sym ((bytes_eq-Decides computed stored).0 same);
      preamble = covering body (length x - k.len) _ (rw long at sound);
    })
    (λ other. absurd (let e = rw other at checksum in cc)))

pub covered_slot : (body : SlotBody) (x : List ℕ) → slots.is_bad (signed_slot_in body x) ≡ false
    → (each_byte_is 0xff x ≡ true) ⊎ (each_byte_is 0x00 x ≡ true) ⊎ IsCoveredSlot body (keyblock_of (take 112 x)) x
unfolding signed_slot_in checked_keyblock
covered_slot body x sound =
    let k = keyblock_of (take 112 x) in
    let P : Type 0 = (each_byte_is 0xff x ≡ true) ⊎ (each_byte_is 0x00 x ≡ true) ⊎ IsCoveredSlot body k x in
    by_bool (each_byte_is 0xff x) P (λ erased. inl erased) (λ filled.
    by_bool (each_byte_is 0x00 x) P (λ cleared. inr (inl cleared)) (λ set.
    by_bool (nat_lt (length x) 112) P (λ short. absurd (let e = rw (filled, set, short) at sound in cc)) (λ whole.
    by_bool (has_magic_at 0 slots.magic (take 112 x)) P (λ signed.
    by_option (keyblock_fault (length x) k) P (λ fault header. absurd (let e = rw (filled, set, whole, signed, header) at sound in cc)) (λ header.
    by_option (checksum_fault k.checksum x) P (λ fault checksum. absurd (let e = rw (filled, set, whole, signed, header, checksum) at sound in cc)) (λ checksum.
    inr (inr (slot_with body k x (magic_in_front x slots.magic 0 112 (omega arith) signed) header checksum (rw (filled, set, whole, signed, header, checksum) at sound))))))
    (λ unsigned. absurd (let e = rw (filled, set, whole, unsigned) at sound in cc)))))

-- ---- the master header

header_with : (start at : ℕ) (h : HeaderFields) (x : List ℕ) → at + 32 ≤ length x → fields_fault start (length x) h ≡ None → pointer_fault at (length x) (pointer_in x) ≡ None → IsHeaderOfArea start at h x
header_with start at h x fits none pointer =
    let ends = option_or (end_fault (start + length x) h) (alignment_fault h) in
    let first = or_none (version_fault h) (option_or (start_fault start h) ends) none in
    let second = or_none (start_fault start h) ends first.1 in
    let third = or_none (end_fault (start + length x) h) (alignment_fault h) second.1 in
    let P : Type 0 = IsHeaderOfArea start at h x in
    by_bool (h.version == headers.version) P (λ version.
    by_bool (h.start == start) P (λ begins.
    by_bool (h.end == start + length x) P (λ finishes.
    by_bool (h.alignment == 64) P (λ aligned.
    by_bool (pointer_in x + length x == at + 2 ^ 32) P (λ leads. record {
      fits = fits;
      version = eqb-true _ _ version;
      begin = eqb-true _ _ begins;
      end = eqb-true _ _ finishes;
      alignment = eqb-true _ _ aligned;
      pointer = eqb-true _ _ leads;
    })
    (λ other. absurd (let e = rw other at pointer in cc)))
    (λ other. absurd (let e = rw other at third.1 in cc)))
    (λ other. absurd (let e = rw other at third.0 in cc)))
    (λ other. absurd (let e = rw other at second.0 in cc)))
    (λ other. absurd (let e = rw other at first.0 in cc))

pub header_of_area : (start at : ℕ) (x : List ℕ) → master_header_in start at x ≡ header_states.Sound → IsHeaderOfArea start at (fields_of (slice_range x at (at + 32))) x
unfolding master_header_in header_fault
header_of_area start at x sound =
    let bytes = slice_range x at (at + 32) in
    let h = fields_of bytes in
    let P : Type 0 = IsHeaderOfArea start at h x in
    by_bool (nat_lt (length x) (at + 32)) P (λ short. absurd (let e = rw short at sound in cc)) (λ whole.
    by_bool (has_magic_at 0 headers.magic bytes) P (λ signed.
    by_option (fields_fault start (length x) h) P (λ fault fields. absurd (let e = rw (whole, signed, fields) at sound in cc)) (λ fields.
    by_option (pointer_fault at (length x) (pointer_in x)) P (λ fault pointer. absurd (let e = rw (whole, signed, fields, pointer) at sound in cc)) (λ pointer.
    header_with start at h x (ltb-false (length x) (at + 32) whole) fields pointer)))
    (λ unsigned. absurd (let e = rw (whole, unsigned) at sound in cc)))
