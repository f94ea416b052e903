-- An empty entry's header before any bytes is a free cell.
use Rattle.std.proofs.Common.{◌≡◌, ℕ, ◌+◌, ◌-◌, ◌%◌, ◌^◌, ◌<◌, ◌≤◌, Bool, true, false, cond, List, ◌++◌, length, replicate, Some, Result, Ok, refl, sym, ap, ◌∙◌, arith, append_assoc, length-append, lit<, ltb, not, ◌&&◌}
use Rattle.std.proofs.lemmas.Bool.{le-ltb}
use Rattle.std.proofs.lemmas.Bool.Decides.{nat_tests}
use Rattle.std.proofs.lemmas.List.{take_at}
use Rattle.flash_format.specs.declared.head.Head.{Head}
use Rattle.flash_format.specs.declared.head.Extent.{Extent}
use Rattle.flash_format.specs.declared.head.DamageKind.{DamageKind}
use Rattle.flash_format.specs.Head.{head_of, head_at, head_bytes, is_free, attributes_misplaced, extent_of, round64}
use Rattle.flash_format.specs.Made.{header_length, empty_header}
use Rattle.flash_format.specs.Entry.{cell, entry, present}
use Rattle.flash_format.proofs.Fronts.{head_at-take}
use Rattle.flash_format.proofs.CutSteps.{head_is}
use Rattle.flash_format.proofs.EntryLaws.{from_head, present_by}
use Rattle.flash_format.proofs.FieldWrites.{head_is_read_back}

pub length-head_bytes : (h : Head) → length (head_bytes h) ≡ 24
unfolding head_bytes
length-head_bytes h = refl

-- a head before any bytes decodes
pub head_in_front : (h : Head) (more : List ℕ) → h.len < 256 ^ 4 → h.kind < 256 ^ 4 → h.attributes_offset < 256 ^ 4 → h.offset < 256 ^ 4 → head_at (head_bytes h ++ more) ≡ Some h
head_in_front h more len_fits kind_fits attributes_fit offset_fits =
    sym (head_at-take (head_bytes h ++ more) 24 (omega arith))
    ∙ ap (λ (l : List ℕ). head_at l) (take_at (head_bytes h) more 24 (length-head_bytes h))
    ∙ head_is_read_back (head_bytes h) h refl len_fits kind_fits attributes_fit offset_fits

-- the checks of a head with room for the content
pub checked_passes : (h : Head) (left : ℕ) → ltb h.offset (cond (is_free h) 24 25) ≡ false → (not (is_free h) && attributes_misplaced h) ≡ false → h.offset + h.len ≤ left
    → extent_of h left ≡ Ok (record { content = h.offset; span = round64 (h.offset + h.len) })
unfolding extent_of
checked_passes h left offset placed fits = rw (offset, placed, le-ltb left (h.offset + h.len) fits) refl

-- a head of free space of the given size
free_entry : (h : Head) (more : List ℕ) (size : ℕ) → is_free h ≡ true → 24 ≤ h.offset → h.offset + h.len ≤ size → size < h.offset + h.len + 64 → size % 64 ≡ 0 → size < 2 ^ 32
    → h.kind < 256 ^ 4 → h.attributes_offset < 256 ^ 4 → 24 + length more ≡ size
    → (entry (head_bytes h ++ more) ≡ cell size) × (is_free (head_of (head_bytes h ++ more)) ≡ true)
free_entry h more size free offset fits full whole small kind_fits attributes_fit long =
    let x : List ℕ = head_bytes h ++ more in
    let len : length x ≡ size = omega (arith, length-append (head_bytes h) more, length-head_bytes h) in
    let head : head_at x ≡ Some h = head_in_front h more (omega arith) kind_fits attributes_fit (omega arith) in
    let e : Extent = record { content = h.offset; span = round64 (h.offset + h.len) } in
    let span : round64 (h.offset + h.len) ≡ size = omega arith in (
      from_head x h (omega arith) head
          ∙ ap (λ (r : Result Extent DamageKind). present h x r) (checked_passes h (length x) (rw free (le-ltb h.offset 24 offset)) (rw free refl) (omega arith))
          ∙ present_by true h x e free
          ∙ ap (λ (n : ℕ). cell n) span,
      ap (λ (k : Head). is_free k) (head_is x h head) ∙ free,
    )

pub empty_header-cell : (size : ℕ) (kept : Bool) (more : List ℕ) → 64 ≤ size → size % 64 ≡ 0 → size < 2 ^ 32 → header_length + length more ≡ size
    → (entry (empty_header size kept ++ more) ≡ cell size) × (is_free (head_of (empty_header size kept ++ more)) ≡ true)
unfolding empty_header
empty_header-cell size kept more some whole small long = at_most (cond kept 4 0) (grind (arith, nat_tests))
  where
    at_most : (n : ℕ) → n ≤ 4 → let h : Head = record { len = size - header_length - n; kind = 0xffffffff; attributes_offset = 0; offset = header_length } in
        let x : List ℕ = head_bytes h ++ replicate (header_length - 24) 0 ++ more in
        (entry x ≡ cell size) × (is_free (head_of x) ≡ true)
    at_most n few =
        let h : Head = record { len = size - header_length - n; kind = 0xffffffff; attributes_offset = 0; offset = header_length } in
        let done = free_entry h (replicate (header_length - 24) 0 ++ more) size refl (omega arith) (omega arith) (omega arith) whole small (lit< tt) (lit< tt) (omega arith) in
        let same : head_bytes h ++ replicate (header_length - 24) 0 ++ more ≡ head_bytes h ++ (replicate (header_length - 24) 0 ++ more) = append_assoc (head_bytes h) (replicate (header_length - 24) 0) more in
        (ap (λ (l : List ℕ). entry l) same ∙ done.0, ap (λ (l : List ℕ). is_free (head_of l)) same ∙ done.1)

pub length-empty_header : (size : ℕ) (kept : Bool) → length (empty_header size kept) ≡ header_length
unfolding empty_header head_bytes
length-empty_header size kept = refl
