-- Parts of an area that one call reads.
use Rattle.std.proofs.Common.{◌≡◌, ◌∙◌, ℕ, ◌+◌, ◌-◌, ◌≤◌, List, IsTrue, length, take, drop, min, sym, ap, arith}
use Rattle.std.specs.Prelude.{slice_range}
use Rattle.std.proofs.lemmas.List.{take-take, drop-drop, drop-take, take_min}
use Rattle.flash_device.specs.Regions.{Range, bytes_in, LiesIn, LiesOn}
use Rattle.flash_device.specs.Pages.{Pages, HasRead}
use Rattle.board_structures.specs.Filling.{first_page}
use Rattle.flash_device.proofs.BytesLemmas.{slice_range_is}
use Rattle.flash_device.proofs.DeviceLemmas.{honest_still, length-bytes_in}

-- a part of an area is a part of the image
pub part_in : (image : List ℕ) (r : Range) (at n : ℕ) → at + n ≤ r.size → slice_range image (r.start + at) (r.start + at + n) ≡ slice_range (bytes_in r image) at (at + n)
part_in image r at n fits =
    let size : r.size ≡ at + (r.size - at) = omega arith in
    slice_range_is image (r.start + at) n
    ∙ ap (take n) (sym (drop-drop at r.start image))
    ∙ sym (take-take n (r.size - at) (drop at (drop r.start image)) (omega arith))
    ∙ ap (take n) (sym (drop-take at (r.size - at) (drop r.start image)))
    ∙ ap (λ k. take n (drop at (take k (drop r.start image)))) (sym size)
    ∙ ap (λ l. take n (drop at l)) (sym (slice_range_is image r.start r.size))
    ∙ sym (slice_range_is (bytes_in r image) at n)

-- the first page of an area
pub page_in : (image : List ℕ) (r : Range) (n : ℕ) → LiesIn r image → n ≡ min r.size 4096 → slice_range image r.start (r.start + n) ≡ take 4096 (bytes_in r image)
page_in image r n inside is =
    let len : n ≡ min 4096 (length (bytes_in r image)) = omega (arith, is, length-bytes_in r image inside) in
    ap (λ at. slice_range image at (at + n)) {x = r.start} {y = r.start + 0} (omega arith)
    ∙ part_in image r 0 n (omega (arith, is))
    ∙ slice_range_is (bytes_in r image) 0 n
    ∙ ap (λ m. take m (bytes_in r image)) len ∙ take_min 4096 (bytes_in r image)

-- after other reads, a read of the first page returns it
pub page_read : {F : Type 0} (r : Range) (start n m : ℕ) (old mid : Pages F) (bytes : List ℕ) → LiesOn r old.device → HasRead m 0 old mid → start ≡ r.start → n ≡ min r.size 4096
    → (IsTrue mid.device.honest → bytes ≡ slice_range mid.device.content start (start + n)) → IsTrue old.device.honest → bytes ≡ first_page (bytes_in r old.device.content)
page_read r start n m old mid bytes lies read is_start is shown h =
    shown (honest_still read.device.calls.same_honesty h)
    ∙ ap (λ i. slice_range i start (start + n)) (read.device.unchanged h)
    ∙ ap (λ at. slice_range old.device.content at (at + n)) is_start
    ∙ page_in old.device.content r n lies.inside is

-- a fact of the content after reads is one of the content before them
pub told_after : {F : Type 0} {n : ℕ} {old mid : Pages F} → HasRead n 0 old mid → (P : List ℕ → Type 0) → (IsTrue mid.device.honest → P mid.device.content) → IsTrue old.device.honest → P old.device.content
told_after read P shown h = rw (read.device.unchanged h) at (shown (honest_still read.device.calls.same_honesty h))

-- n bytes at an offset of an area, by their offset in the image
pub part_read : (image bytes : List ℕ) (r : Range) (place at n : ℕ) → place ≡ r.start + at → at + n ≤ r.size → bytes ≡ slice_range image place (place + n) → bytes ≡ slice_range (bytes_in r image) at (at + n)
part_read image bytes r place at n is fits read = read ∙ ap (λ p. slice_range image p (p + n)) is ∙ part_in image r at n fits
