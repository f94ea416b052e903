-- The rules of a Firmware Interface Table.
use Rattle.std.proofs.Common.{◌≡◌, ◌⊎◌, ◌∙◌, ℕ, zero, suc, ◌+◌, ◌-◌, ◌*◌, ◌%◌, ◌<◌, ◌≤◌, inl, inr, List, length, Some, None, Result, Ok, Err, refl, sym, ap, subst, arith}
use Rattle.std.specs.Prelude.{slice_range, nat_lt, ◌==◌}
use Rattle.std.proofs.lemmas.Bool.{eqb-false, eqb-true, ltb-false}
use Rattle.flash_format.specs.Flashmap.{le}
use Rattle.board_structures.specs.FirmwareTables.{body_in, entries_fault, entry_at, entry_result, firmware_table_in, has_sum, has_table_at, place_of, stated_len, table_at, table_fault, table_place, unused_address, update_at, update_in, used_update_in}
use Rattle.board_structures.specs.Laws.{IsAcceptedAddress, IsUsableTable, IsWholeUpdate}
use Rattle.board_structures.specs.declared.firmware_table.FirmwareTable.TheVariants as states
use Rattle.board_structures.specs.declared.firmware_table.TableEntry.{TableEntry}
use Rattle.board_structures.proofs.BlockRules.{by_option}
use Rattle.board_structures.proofs.Entries.{good_entry, bad_entry}
use Rattle.board_structures.proofs.Rules.{by_bool}

by_result : {T E : Type 0} (a : Result T E) (P : Type 0) → ((t : T) → a ≡ Ok t → P) → ((e : E) → a ≡ Err e → P) → P
by_result (Ok t) P good bad = good t refl
by_result (Err e) P good bad = bad e refl

-- ---- an update

whole_body : (left place n len : ℕ) (image : List ℕ) → le 4 0 (slice_range image place (place + 48)) ≡ 1 → body_in left place len image ≡ Ok n → IsWholeUpdate place len image
whole_body left place n len image version is =
    let P : Type 0 = IsWholeUpdate place len image in
    by_bool (nat_lt (length image) (place + len)) P (λ out. absurd (let e = rw out at is in cc)) (λ inside.
    by_bool (nat_lt left len) P (λ out. absurd (let e = rw (inside, out) at is in cc)) (λ fits.
    by_bool (len % 4 == 0) P (λ words.
    by_bool (has_sum place len image) P (λ sum.
    record { version = version; inside = ltb-false (length image) (place + len) inside; words = eqb-true _ _ words; sum = eqb-true _ _ sum })
    (λ other. absurd (let e = rw (inside, fits, words, other) at is in cc)))
    (λ other. absurd (let e = rw (inside, fits, other) at is in cc))))

accepted : (left address n : ℕ) (image : List ℕ) → used_update_in left address image ≡ Ok n → IsAcceptedAddress address image
unfolding used_update_in update_at
accepted left address n image is =
    let P : Type 0 = IsAcceptedAddress address image in
    by_bool (address % 16 == 0) P (λ aligned.
    by_option (place_of (length image) address) P (λ place mapped.
    let header = slice_range image place (place + 48) in
    by_bool (nat_lt (length image) (place + 48)) P (λ out. absurd (let e = rw (aligned, mapped, out) at is in cc)) (λ inside.
    by_bool (le 4 0 header == 0xffffffff) P (λ empty. record { aligned = eqb-true _ _ aligned; place = place; mapped = mapped; inside = ltb-false (length image) (place + 48) inside; update = inl (eqb-true _ _ empty) }) (λ used.
    by_bool (le 4 0 header == 1) P (λ version.
    let body = rw (aligned, mapped, inside, used, version) at is in
    record { aligned = eqb-true _ _ aligned; place = place; mapped = mapped; inside = ltb-false (length image) (place + 48) inside; update = inr (whole_body left place n (stated_len header) image (eqb-true _ _ version) body) })
    (λ other. absurd (let e = rw (aligned, mapped, inside, used, other) at is in cc)))))
    (λ missing. absurd (let e = rw (aligned, missing) at is in cc)))
    (λ odd. absurd (let e = rw odd at is in cc))

-- an address that isn't used, or an accepted one
abbrev pub IsFine : ℕ → List ℕ → Type 0
IsFine address image = (address ≡ unused_address) ⊎ IsAcceptedAddress address image

fine_address : (left address n : ℕ) (image : List ℕ) → update_in left address image ≡ Ok n → IsFine address image
fine_address left address n image is =
    by_bool (address == unused_address) (IsFine address image) (λ unused. inl (eqb-true _ _ unused)) (λ used. inr (accepted left address n image (rw used at is)))

-- ---- the entries

-- an entry with an update
update_of : (left n : ℕ) (image : List ℕ) (e : TableEntry) → e.kind ≡ 1 → entry_result left image e ≡ Ok n → IsFine e.address image
update_of left n image e is result = fine_address left e.address n image (rw is at result)

module _ (count place : ℕ) (image : List ℕ) where
  -- of entries without a fault, each one with an update has an accepted one
  each_entry : (more at left : ℕ) → at + more ≡ count → entries_fault (count - at) at left place image ≡ None → (number : ℕ) → at ≤ number → number < count → (entry_at (place + 16 * number) image).kind ≡ 1 → IsFine (entry_at (place + 16 * number) image).address image
  each_entry zero at left is none number from below update = absurd (omega (arith, is, from, below))
  each_entry (suc more) at left is none number from below update =
      let entry = entry_at (place + 16 * at) image in
      let P : Type 0 = IsFine (entry_at (place + 16 * number) image).address image in
      let less : at < count = omega (arith, is) in
      by_result (entry_result left image entry) P (λ n good.
      by_bool (number == at) P (λ same.
      let Accepted : ℕ → Type 0 = λ m. (entry_at (place + 16 * m) image).kind ≡ 1 → IsFine (entry_at (place + 16 * m) image).address image in
      subst Accepted (sym (eqb-true number at same)) (λ is_update. update_of left n image entry is_update good) update) (λ other. each_entry more (at + 1) (left - n) (omega (arith, is)) (sym (good_entry count at left place image n less good) ∙ none) number (omega (arith, from, eqb-false number at other)) below update))
      (λ fault bad. absurd (let e = sym (bad_entry count at left place image fault less bad) ∙ none in cc))

-- ---- the table

no_fault : (place count : ℕ) (image : List ℕ) → table_fault count place image ≡ None → (1 ≤ count) × (place + 16 * count ≤ length image) × (entries_fault (count - 1) 1 (length image) place image ≡ None)
no_fault place zero image none = absurd cc
no_fault place (suc more) image none =
    let P : Type 0 = (1 ≤ suc more) × (place + 16 * suc more ≤ length image) × (entries_fault (suc more - 1) 1 (length image) place image ≡ None) in
    by_bool (nat_lt (length image) (place + 16 * suc more)) P (λ out. absurd (let e = rw out at none in cc)) (λ inside.
    by_option (entries_fault more 1 (length image) place image) P (λ fault bad. absurd (let e = rw (inside, bad) at none in cc)) (λ good.
    (omega arith, ltb-false (length image) (place + 16 * suc more) inside, ap (λ k. entries_fault k 1 (length image) place image) {x = suc more - 1} {y = more} (omega arith) ∙ good)))

sound_at : (place count : ℕ) (image : List ℕ) → table_at place image ≡ states.Sound count → IsUsableTable place count image
unfolding table_at
sound_at place count image is =
    let P : Type 0 = IsUsableTable place count image in
    let stated = (entry_at place image).count in
    by_bool (has_table_at place image) P (λ has.
    by_option (table_fault stated place image) P (λ fault bad. absurd (let e = rw (has, bad) at is in cc)) (λ good.
    let same : stated ≡ count = (let e = rw (has, good) at is in cc) in
    let facts = no_fault place count image (rw same at good) in
    record { signature = has; stated = sym same; some = facts.0; inside = facts.1; updates = λ number from below. each_entry count place image (count - 1) 1 (length image) (omega (arith, facts.0)) facts.2 number from below }))
    (λ no. absurd (let e = rw no at is in cc))

pub usable_table : (image : List ℕ) (count : ℕ) → firmware_table_in image ≡ states.Sound count → (place : ℕ) × (table_place image ≡ Some place) × IsUsableTable place count image
unfolding firmware_table_in
usable_table image count is =
    let P : Type 0 = (place : ℕ) × (table_place image ≡ Some place) × IsUsableTable place count image in
    by_option (table_place image) P (λ place there. (place, there, sound_at place count image (rw there at is))) (λ none. absurd (let e = rw none at is in cc))
