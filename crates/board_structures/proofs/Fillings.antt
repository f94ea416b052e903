-- The bytes of an area, page by page.
use Rattle.std.proofs.Common.{◌≡◌, ◌∙◌, ℕ, ◌+◌, ◌-◌, ◌<◌, ◌≤◌, ◌&&◌, true, IsTrue, List, length, take, drop, min, sym, ap, arith, length-drop}
use Rattle.std.specs.Prelude.{slice_range, ◌==◌}
use Rattle.std.proofs.lemmas.List.{drop_all, drop-drop, take-append-drop, take_min}
use Rattle.std.proofs.lemmas.List.Folds.{list_all-append}
use Rattle.flash_device.specs.Pages.{Pages, HasRead}
use Rattle.flash_device.specs.Regions.{Range, LiesOn, bytes_in}
use Rattle.flash_device.proofs.BytesLemmas.{slice_range_is}
use Rattle.flash_device.proofs.DeviceLemmas.{honest_still, length-bytes_in}
use Rattle.board_structures.specs.Filling.{each_byte_is}
use Rattle.board_structures.proofs.Parts.{part_in}

pub take_page : (xs : List ℕ) (n : ℕ) → n ≡ min (length xs) 4096 → take n xs ≡ take 4096 xs
take_page xs n is = ap (λ m. take m xs) {x = n} {y = min 4096 (length xs)} (omega (arith, is)) ∙ take_min 4096 xs

-- of the bytes from k on: the next page, and those after it
pub filled_page : {F : Type 0} (r : Range) (byte k n m : ℕ) (old now : Pages F) (bytes : List ℕ) → LiesOn r old.device → HasRead m 0 old now
    → k < r.size → n ≡ min (r.size - k) 4096 → (IsTrue now.device.honest → bytes ≡ slice_range now.device.content (r.start + k) (r.start + k + n)) → IsTrue old.device.honest
    → (let x = bytes_in r old.device.content in each_byte_is byte (drop k x) ≡ (each_byte_is byte bytes && each_byte_is byte (drop (k + 4096) x)))
filled_page r byte k n m old now bytes lies read inside is shown h =
    let image = old.device.content in
    let x = bytes_in r image in
    let len : length (drop k x) ≡ r.size - k = omega (arith, length-drop k x, length-bytes_in r image lies.inside) in
    let page : take 4096 (drop k x) ≡ bytes = sym (
    shown (honest_still read.device.calls.same_honesty h) ∙ ap (λ i. slice_range i (r.start + k) (r.start + k + n)) (read.device.unchanged h)
    ∙ part_in image r k n (omega (arith, is, inside)) ∙ slice_range_is x k n ∙ take_page (drop k x) n (is ∙ ap (λ m. min m 4096) (sym len))
    ) in
    ap (each_byte_is byte) (sym (take-append-drop 4096 (drop k x)))
    ∙ list_all-append (λ b. b == byte) (take 4096 (drop k x)) (drop 4096 (drop k x))
    ∙ ap (λ b. each_byte_is byte b && each_byte_is byte (drop 4096 (drop k x))) page
    ∙ ap (λ b. each_byte_is byte bytes && each_byte_is byte b) (drop-drop 4096 k x)

-- no byte follows the last page
pub all_left : (byte k : ℕ) (x : List ℕ) → length x ≤ k → each_byte_is byte (drop k x) ≡ true
all_left byte k x over = ap (each_byte_is byte) (drop_all k x over)
