-- Sums of the words of an update.
use Rattle.std.proofs.Common.{◌≡◌, ◌∙◌, ℕ, zero, suc, ◌+◌, ◌-◌, ◌*◌, ◌/◌, ◌%◌, ◌^◌, ◌<◌, ◌≤◌, List, min, refl, sym, ap, arith}
use Rattle.std.proofs.Math.Nat.{mod-add-mod}
use Rattle.std.specs.Prelude.{slice_range}
use Rattle.byteorder.specs.Endian.{little_number}
use Rattle.board_structures.proofs.Parts.{part_in}
use Rattle.flash_format.specs.Flashmap.{le}
use Rattle.board_structures.specs.FirmwareTables.{word_sum}

-- the first of some words, and the others
pub first_word : (n i : ℕ) (x : List ℕ) → i < n → word_sum (n - i) (4 * i) x ≡ le 4 (4 * i) x + word_sum (n - (i + 1)) (4 * (i + 1)) x
unfolding word_sum
first_word n i x less =
    ap (λ k. word_sum k (4 * i) x) {x = n - i} {y = suc (n - (i + 1))} (omega (arith, less))
    ∙ ap (λ at. le 4 (4 * i) x + word_sum (n - (i + 1)) at x) {x = 4 * i + 4} {y = 4 * (i + 1)} (omega arith)

-- a sum of 32 bits after one more word
pub next_word : (n i total : ℕ) (x : List ℕ) → i < n → ((total + le 4 (4 * i) x) % 2 ^ 32 + word_sum (n - (i + 1)) (4 * (i + 1)) x) % 2 ^ 32 ≡ (total + word_sum (n - i) (4 * i) x) % 2 ^ 32
next_word n i total x less =
    let later = word_sum (n - (i + 1)) (4 * (i + 1)) x in
    mod-add-mod (total + le 4 (4 * i) x) (2 ^ 32) later
    ∙ ap (λ k. k % 2 ^ 32) {x = total + le 4 (4 * i) x + later} {y = total + word_sum (n - i) (4 * i) x} (omega (arith, first_word n i x less))

pub no_word : (n at : ℕ) (x : List ℕ) → n ≡ 0 → word_sum n at x ≡ 0
unfolding word_sum
no_word n at x none = ap (λ k. word_sum k at x) none

-- ---- words of a part of an image

-- a word of n bytes of an image is a word of the image
word_in : (image : List ℕ) (start n at : ℕ) → at + 4 ≤ n → le 4 at (slice_range image start (start + n)) ≡ le 4 (start + at) image
word_in image start n at fits = ap (little_number 4) (sym (part_in image (record { start = start; size = n }) at 4 fits))

pub words_in : (image : List ℕ) (start n count at : ℕ) → at + 4 * count ≤ n → word_sum count at (slice_range image start (start + n)) ≡ word_sum count (start + at) image
unfolding word_sum
words_in image start n zero at fits = refl
words_in image start n (suc count) at fits =
    let later = words_in image start n count (at + 4) (omega (arith, fits)) in
    let same = ap (λ k. word_sum count k image) {x = start + (at + 4)} {y = start + at + 4} (omega arith) in
    omega (arith, word_in image start n at (omega (arith, fits)), later, same)

-- the first words and the others
pub split_words : (first others at : ℕ) (x : List ℕ) → word_sum (first + others) at x ≡ word_sum first at x + word_sum others (at + 4 * first) x
unfolding word_sum
split_words zero others at x =
    let same = ap (λ k. word_sum others k x) {x = at} {y = at + 4 * 0} (omega arith) in
    ap (λ k. word_sum k at x) {x = 0 + others} {y = others} (omega arith) ∙ omega (arith, same)
split_words (suc first) others at x =
    let later = split_words first others (at + 4) x in
    let same = ap (λ k. word_sum others k x) {x = at + 4 + 4 * first} {y = at + 4 * suc first} (omega arith) in
    ap (λ k. word_sum k at x) {x = suc first + others} {y = suc (first + others)} (omega arith) ∙ omega (arith, later, same)

-- words from two places are the same if there are none
pub words_from : (count at other : ℕ) (x : List ℕ) → (0 < count → at ≡ other) → word_sum count at x ≡ word_sum count other x
unfolding word_sum
words_from zero at other x same = refl
words_from (suc count) at other x same = ap (λ k. word_sum (suc count) k x) (same (omega arith))

-- a sum of 32 bits after one more page
pub next_page : (image bytes : List ℕ) (place len i n sum : ℕ) → len % 4 ≡ 0 → 4096 * i < len → n ≡ min (len - 4096 * i) 4096 → bytes ≡ slice_range image (place + 4096 * i) (place + 4096 * i + n)
    → ((sum + word_sum (n / 4) 0 bytes) % 2 ^ 32 + word_sum ((len - 4096 * (i + 1)) / 4) (place + 4096 * (i + 1)) image) % 2 ^ 32 ≡ (sum + word_sum ((len - 4096 * i) / 4) (place + 4096 * i) image) % 2 ^ 32
next_page image bytes place len i n sum whole less is read =
    let at = place + 4096 * i in
    let others = (len - 4096 * (i + 1)) / 4 in
    let count : (len - 4096 * i) / 4 ≡ n / 4 + others = omega (arith, whole, less, is) in
    let page : word_sum (n / 4) 0 bytes ≡ word_sum (n / 4) at image = ap (word_sum (n / 4) 0) read ∙ words_in image at n (n / 4) 0 (omega arith) ∙ ap (λ k. word_sum (n / 4) k image) {x = at + 0} {y = at} (omega arith) in
    let rest : word_sum others (place + 4096 * (i + 1)) image ≡ word_sum others (at + 4 * (n / 4)) image = words_from others (place + 4096 * (i + 1)) (at + 4 * (n / 4)) image (λ some. omega (arith, some, is, less)) in
    let all : word_sum ((len - 4096 * i) / 4) at image ≡ word_sum (n / 4) at image + word_sum others (at + 4 * (n / 4)) image = ap (λ k. word_sum k at image) count ∙ split_words (n / 4) others at image in
    mod-add-mod (sum + word_sum (n / 4) 0 bytes) (2 ^ 32) (word_sum others (place + 4096 * (i + 1)) image)
    ∙ ap (λ k. k % 2 ^ 32) {x = sum + word_sum (n / 4) 0 bytes + word_sum others (place + 4096 * (i + 1)) image} {y = sum + word_sum ((len - 4096 * i) / 4) at image} (omega (arith, page, rest, all))

-- a sum of 32 bits to which no word is added any more
pub last_sum : (sum rest total : ℕ) → sum < 2 ^ 32 → rest ≡ 0 → (sum + rest) % 2 ^ 32 ≡ total % 2 ^ 32 → sum ≡ total % 2 ^ 32
last_sum sum rest total below none is = omega (arith, below, none, is)
