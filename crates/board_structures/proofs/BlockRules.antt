-- The rules of keys and of a Google Binary Block.
use Rattle.std.proofs.Common.{◌≡◌, ◌⊎◌, ◌∙◌, ℕ, ◌+◌, ◌≤◌, inl, inr, true, false, List, length, take, Option, Some, None, sym, ap, refl, arith}
use Rattle.std.specs.Prelude.{slice_range, nat_lt, ◌==◌, option_map}
use Rattle.std.specs.List.{position}
use Rattle.std.specs.Option.{option_or}
use Rattle.std.specs.Str.{bytes_eq}
use Rattle.std.proofs.lemmas.Bool.{eqb-true, le-ltb, ltb-false}
use Rattle.std.proofs.lemmas.Slice.Eq.{bytes_eq-Decides}
use Rattle.flash_format.specs.Entry.{is_nul}
use Rattle.board_structures.specs.Filling.{each_byte_is}
use Rattle.board_structures.specs.Magics.{has_magic_at}
use Rattle.board_structures.specs.PackedKeys.{key_fault, key_len, size_fault}
use Rattle.board_structures.specs.GoogleBinaryBlocks as blocks
use Rattle.board_structures.specs.GoogleBinaryBlocks.{checked_header, content_fault, digest_fault, digest_of, gbb_in, header_fault, header_in, header_of, key_fault_at, key_in_field, outside_fault, place_fault, signature, text_fault}
use Rattle.board_structures.specs.Laws.{HasDigest, IsUsableBlock, IsUsableKey, LiesAfterHeader}
use Rattle.board_structures.specs.declared.gbb.FieldPlace.{FieldPlace}
use Rattle.board_structures.specs.declared.gbb.GbbField.{GbbField}
use Rattle.board_structures.specs.declared.gbb.GbbHeader.{GbbHeader}
use Rattle.board_structures.specs.declared.packed_key.PackedKey.{PackedKey}
use Rattle.board_structures.proofs.Rules.{by_bool, magic_in_front}

-- ---- options

pub or_none : {E : Type 0} (a b : Option E) → option_or a b ≡ None → (a ≡ None) × (b ≡ None)
or_none None b none = (refl, none)
or_none (Some e) b none = absurd cc

pub map_none : {E T : Type 0} (f : E → T) (a : Option E) → option_map f a ≡ None → a ≡ None
map_none f None none = refl
map_none f (Some e) none = absurd cc

pub by_option : {E : Type 0} (a : Option E) (P : Type 0) → ((e : E) → a ≡ Some e → P) → (a ≡ None → P) → P
by_option None P found missing = missing refl
by_option (Some e) P found missing = found e refl

-- ---- keys

sized : (room : ℕ) (key : PackedKey) (len : ℕ) → size_fault room key len ≡ None → (key.size ≡ len) × (key.offset + key.size ≤ room)
sized room key len none =
    let P : Type 0 = (key.size ≡ len) × (key.offset + key.size ≤ room) in
    by_bool (key.size == len) P (λ same.
    by_bool (nat_lt room (key.offset + key.size)) P (λ outside. absurd (let e = rw (same, outside) at none in cc)) (λ inside. (eqb-true _ _ same, ltb-false room (key.offset + key.size) inside)))
    (λ other. absurd (let e = rw other at none in cc))

pub usable_key : (room : ℕ) (key : PackedKey) → key_fault room key ≡ None → IsUsableKey room key
usable_key room key none = by_option (key_len key.algorithm) (IsUsableKey room key) (λ len known.
    let parts = sized room key len (rw known at none) in
    record { length = known ∙ ap Some (sym parts.0); inside = parts.1 })
    (λ unknown. absurd (let e = rw unknown at none in cc))

-- ---- the hardware id

pub digested : (h : GbbHeader) (field : List ℕ) → text_fault h field ≡ None → HasDigest h field
digested h field none = by_option (position is_nul field) (HasDigest h field) (λ end first.
    record {
      end = end;
      first = first;
      stored = λ newer.
          let there : digest_fault h field end ≡ None = rw first at none in
          by_bool (bytes_eq (digest_of (take end field)) h.digest) (digest_of (take end field) ≡ h.digest)
          (λ same. (bytes_eq-Decides (digest_of (take end field)) h.digest).0 same)
          (λ other. absurd (let e = rw (le-ltb h.minor 2 newer, other) at there in cc));
    })
    (λ missing. absurd (let e = rw missing at none in cc))

-- ---- the block

after_header : (size : ℕ) (field : GbbField) (place : FieldPlace) → outside_fault size field place ≡ None → LiesAfterHeader size place
after_header size field place none = by_bool (nat_lt place.offset 128) (LiesAfterHeader size place) (λ before. absurd (let e = rw before at none in cc)) (λ after.
    by_bool (nat_lt size (place.offset + place.size)) (LiesAfterHeader size place) (λ outside. absurd (let e = rw (after, outside) at none in cc)) (λ inside.
    record { after = ltb-false place.offset 128 after; inside = ltb-false size (place.offset + place.size) inside }))

key_there : (field : GbbField) (place : FieldPlace) (x : List ℕ) → key_in_field field place x ≡ None → key_fault_at place x ≡ None
key_there field place x none = map_none _ (key_fault_at place x) none

usable_with : (h : GbbHeader) (x : List ℕ) → 128 ≤ length x → slice_range x 0 4 ≡ signature → header_fault (length x) h ≡ None → content_fault h x ≡ None → IsUsableBlock h x
usable_with h x long signed header content = by_bool (h.major == 1) (IsUsableBlock h x) (λ major. by_bool (h.len == 128) (IsUsableBlock h x) (λ len.
    let places : place_fault (length x) h ≡ None = rw (major, len) at header in
    let first = or_none _ _ places in
    let second = or_none _ _ first.1 in
    let third = or_none _ _ second.1 in
    let text = or_none _ _ content in
    let keys = or_none _ _ text.1 in
    record {
      long = long;
      signature = signed;
      major = eqb-true _ _ major;
      header = eqb-true _ _ len;
      hardware_id = after_header (length x) _ h.hardware_id first.0;
      root_key = after_header (length x) _ h.root_key second.0;
      bitmap = after_header (length x) _ h.bitmap third.0;
      recovery_key = after_header (length x) _ h.recovery_key third.1;
      text = text.0;
      root = key_there _ h.root_key x keys.0;
      recovery = key_there _ h.recovery_key x keys.1;
    })
    (λ other. absurd (let e = rw (major, other) at header in cc)))
    (λ other. absurd (let e = rw other at header in cc))

pub usable_block : (x : List ℕ) → blocks.is_bad (gbb_in x) ≡ false → (each_byte_is 0xff x ≡ true) ⊎ IsUsableBlock (header_of (take 128 x)) x
unfolding gbb_in checked_header
usable_block x sound =
    let h = header_of (take 128 x) in
    let P : Type 0 = (each_byte_is 0xff x ≡ true) ⊎ IsUsableBlock h x in
    by_bool (each_byte_is 0xff x) P (λ blank. inl blank) (λ filled.
    by_bool (nat_lt (length x) 128) P (λ short. absurd (let e = rw (filled, short) at sound in cc)) (λ whole.
    by_bool (has_magic_at 0 signature (take 128 x)) P (λ signed.
    by_option (header_fault (length x) h) P (λ fault header. absurd (let e = rw (filled, whole, signed, header) at sound in cc)) (λ header.
    by_option (content_fault h x) P (λ fault content. absurd (let e = rw (filled, whole, signed, header, content) at sound in cc)) (λ content.
    inr (usable_with h x (ltb-false (length x) 128 whole) (magic_in_front x signature 0 128 (omega arith) signed) header content))))
    (λ unsigned. absurd (let e = rw (filled, whole, unsigned) at sound in cc))))
