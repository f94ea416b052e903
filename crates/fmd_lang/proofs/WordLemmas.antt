-- The tokens of a text, by byte.
use Rattle.std.proofs.lemmas.Bool.Decides.{nat_tests}
use Rattle.std.proofs.Common.{◌≡◌, ℕ, suc, ◌+◌, ◌-◌, ◌<◌, ◌≤◌, nat_eq, Bool, true, false, ◌&&◌, not, cond, List, [], ◌∷◌, length, drop, refl, sym, ◌∙◌, ap, arith, slice_index, slice_range, add-one, max}
use Rattle.std.proofs.Math.Seq.{drop-cons}
use Rattle.std.proofs.lemmas.List.{drop_all, drop-drop, length-drop, take_all}
use Rattle.std.proofs.lemmas.List.Sums.{take_while-cons}
use Rattle.std.specs.List.{position_or_len, prefix_len, take_while}
use Rattle.fmd_lang.specs.Words.{words_from, without_comments, words_after, word, is_blank, is_plain}

pub here : (text : List ℕ) (at : ℕ) → at < length text → drop at text ≡ slice_index text at ∷ drop (at + 1) text
here text at h = rw add-one (drop-cons text at 0 h)

pub tail : (text : List ℕ) (at : ℕ) → slice_range text at (length text) ≡ drop at text
tail text at = take_all (length text - at) (drop at text) (omega (arith, length-drop at text))

-- Blanks, plain bytes and `#` are disjoint.
blank-alone : (b : ℕ) → is_blank b ≡ true → (nat_eq b 35 ≡ false) × (is_plain b ≡ false)
blank-alone b h = (grind arith, grind arith)

plain-alone : (b : ℕ) → is_plain b ≡ true → (nat_eq b 35 ≡ false) × (is_blank b ≡ false)
plain-alone b h = (grind arith, grind arith)

pub words_after-blank : (text : List ℕ) (at : ℕ) → at < length text → is_blank (slice_index text at) ≡ true →
    words_after text at ≡ words_after text (at + 1)
unfolding words_after
words_after-blank text at h blank = grind (arith, nat_tests, blank-alone, here, add-one)

-- A comment ends at the line feed.
comment-rest : (s : List ℕ) (at : ℕ) →
    let n = position_or_len (λ b. nat_eq b 10) s in
    words_from at false (without_comments true s) ≡ words_from (n + at) false (without_comments false (drop n s))
comment-rest [] at = refl
comment-rest (b ∷ s) at = go (nat_eq b 10) refl (comment-rest s (suc at))
  where
    k : ℕ
    k = position_or_len (λ b. nat_eq b 10) s

    n : ℕ
    n = position_or_len (λ b. nat_eq b 10) (b ∷ s)

    go : (feed : Bool) → nat_eq b 10 ≡ feed →
        words_from (suc at) false (without_comments true s) ≡ words_from (k + suc at) false (without_comments false (drop k s)) →
        words_from at false (without_comments true (b ∷ s)) ≡ words_from (n + at) false (without_comments false (drop n (b ∷ s)))
    go true e rest = let same : b ≡ 10 = grind arith in let none : 0 + at ≡ at = omega arith in rw (same, none) refl
    go false e rest =
        let more : 1 + k ≡ suc k = omega arith in
        let shift : k + suc at ≡ suc k + at = omega arith in
        rw (e, more) (rw shift at rest)

pub words_after-comment : (text : List ℕ) (at : ℕ) → at < length text → nat_eq (slice_index text at) 35 ≡ true →
    words_after text at ≡ words_after text (at + position_or_len (λ b. nat_eq b 10) (drop at text))
unfolding words_after
words_after-comment text at h comment = grind (arith, nat_tests, here, add-one, comment-rest, drop-drop)

pub words_after-over : (text : List ℕ) (at : ℕ) → length text ≤ at → words_after text at ≡ []
unfolding words_after
words_after-over text at h = rw (drop_all at text h) refl

-- A sequence of plain bytes has no comment, and ends before the first other byte.
abbrev Row : List ℕ → ℕ → Type 0
Row s at = (take_while is_plain (without_comments false s) ≡ take_while is_plain s)
    × (words_from at true (without_comments false s)
    ≡ words_from (prefix_len is_plain s + at) false (without_comments false (drop (prefix_len is_plain s) s)))

row : (s : List ℕ) (at : ℕ) → Row s at
row [] at = (refl, refl)
row (b ∷ s) at = go (is_plain b) refl (row s (suc at))
  where
    go : (plain : Bool) → is_plain b ≡ plain → Row s (suc at) → Row (b ∷ s) at
    go true e (same, behind) =
        let (no_comment, no_blank) = plain-alone b e in
        let kept : without_comments false (b ∷ s) ≡ b ∷ without_comments false s = rw no_comment refl in
        let k = prefix_len is_plain s in
        let more : prefix_len is_plain (b ∷ s) ≡ suc k = rw e (omega arith) in
        let shift : k + suc at ≡ suc k + at = omega arith in
        let goes_on : words_from at true (without_comments false (b ∷ s)) ≡ words_from (suc at) true (without_comments false s) =
        rw (no_comment, no_blank, e) refl in
        let first : (l : List ℕ) → take_while is_plain (b ∷ l) ≡ b ∷ take_while is_plain l =
        λ l. take_while-cons is_plain b l ∙ rw e refl in (
          ap (take_while is_plain) kept
              ∙ first (without_comments false s) ∙ ap (λ l. b ∷ l) same ∙ sym (first s),
          goes_on ∙ behind ∙ ap (λ p. words_from p false (without_comments false (drop k s))) shift
              ∙ ap (λ n. words_from (n + at) false (without_comments false (drop n (b ∷ s)))) (sym more),
        )
    go false e rest =
        let Ends : List ℕ → Type 0 = λ l. (take_while is_plain l ≡ []) × (words_from at true l ≡ words_from at false l) in
        let ends : Ends (without_comments false (b ∷ s)) = elim (nat_eq b 35 && not (nat_eq b 10))
        as (λ v. Ends (cond v 32 b ∷ without_comments v s)) [ true ↦ (refl, refl) | false ↦ (rw e refl, rw e refl) ] in
        let none : 0 + at ≡ at = omega arith in
        rw (e, none) ends

-- a token of plain bytes
begins : (b : ℕ) (s : List ℕ) (at : ℕ) → is_plain b ≡ true → words_from at false (without_comments false (b ∷ s))
    ≡ word at (b ∷ take_while is_plain s) ∷ words_from (at + 1) true (without_comments false s)
begins b s at plain =
    let (no_comment, no_blank) = plain-alone b plain in
    let longer = take_while-cons is_plain b (without_comments false s) in
    grind (arith, nat_tests, add-one, row)

words_after-plain : (text : List ℕ) (at n : ℕ) → at < length text → is_plain (slice_index text at) ≡ true →
    n ≡ suc (prefix_len is_plain (drop (at + 1) text)) →
    words_after text at ≡ word at (slice_range text at (at + n)) ∷ words_after text (at + n)
unfolding words_after
words_after-plain text at n h plain len =
    let more : at + n - at ≡ n = omega arith in
    let place : prefix_len is_plain (drop (at + 1) text) + (at + 1) ≡ at + n = omega arith in
    let rest = drop (at + 1) text in
    let first = begins (slice_index text at) rest at plain in
    let behind = (row rest (at + 1)).1 in
    grind (arith, here, drop-drop)

-- A token has at least one byte.
pub words_after-word : (text : List ℕ) (at n : ℕ) → at < length text → is_blank (slice_index text at) ≡ false →
    nat_eq (slice_index text at) 35 ≡ false → n ≡ max (prefix_len is_plain (drop at text)) 1 →
    words_after text at ≡ word at (slice_range text at (at + n)) ∷ words_after text (at + n)
unfolding words_after
words_after-word text at n h blank comment len = elim (is_plain (slice_index text at)) as (λ v. is_plain (slice_index text at) ≡ v →
    words_after text at ≡ word at (slice_range text at (at + n)) ∷ words_after text (at + n)) [
      | true ↦ λ plain. words_after-plain text at n h plain (grind (arith, nat_tests, here))
      | false ↦ λ other. grind (arith, nat_tests, here, add-one)
    ] refl
