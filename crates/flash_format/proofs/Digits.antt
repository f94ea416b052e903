-- Hexadecimal digits, written from the last to the first.
use Rattle.std.proofs.Common.{◌≡◌, ℕ, zero, suc, ◌+◌, ◌-◌, ◌/◌, ◌%◌, ◌^◌, ◌<◌, ◌≤◌, false, List, [], ◌∷◌, length, drop, set, sym, ap, ◌∙◌, arith, add-one}
use Rattle.std.proofs.Math.Nat.{pow-suc}
use Rattle.std.proofs.lemmas.List.{drop-set, drop-set-lt, length-set, nil_from_length, length-drop}
use Rattle.std.proofs.lemmas.Grind.{common_steps}
use Rattle.std.specs.Fmt.{digits, digits_onto, digit_glyph}

-- the digits from `at` on are written; the digits of rest / 16 remain
pub record Writing (n rest at : ℕ) (text : List ℕ) : Type 0 where
  pub in_text : at < 16
  pub len : length text ≡ 16
  pub room : rest < 16 ^ (at + 1)
  pub first : drop at text ≡ digit_glyph false (rest % 16) ∷ drop (at + 1) text
  pub all : digits_onto (49 + at) 16 false rest (drop (at + 1) text) ≡ digits 16 false n

first_set : (text : List ℕ) (at d : ℕ) → at < length text → drop at (set text at d) ≡ d ∷ drop (at + 1) (set text at d)
first_set text at d lt = drop-set text at d lt ∙ ap (λ l. d ∷ l) (sym (drop-set-lt (at + 1) text at d (omega arith)))

rest_set : (text : List ℕ) (at d : ℕ) → drop (at + 1) (set text at d) ≡ drop (at + 1) text
rest_set text at d = drop-set-lt (at + 1) text at d (omega arith)

pub writing_start : (n : ℕ) (text : List ℕ) → n < 2 ^ 64 → length text ≡ 16 → Writing n n 15 (set text 15 (digit_glyph false (n % 16)))
unfolding digits
writing_start n text fits len =
    let d = digit_glyph false (n % 16) in
    let none : drop 16 (set text 15 d) ≡ [] = nil_from_length _ (omega (arith, length-drop 16 (set text 15 d), length-set text 15 d)) in
    record {
      in_text = omega arith;
      len = length-set text 15 d ∙ len;
      room = omega arith;
      first = first_set text 15 d (omega arith);
      all = ap (digits_onto 64 16 false n) none;
    }

more : (k rest : ℕ) (acc : List ℕ) → 16 ≤ rest → digits_onto (suc k) 16 false rest acc ≡ digits_onto k 16 false (rest / 16) (digit_glyph false (rest % 16) ∷ acc)
more k rest acc le = grind (arith, common_steps)

pub writing_more : (n rest at : ℕ) (text : List ℕ) → Writing n rest at text → 16 ≤ rest
    → Writing n (rest / 16) (at - 1) (set text (at - 1) (digit_glyph false (rest / 16 % 16)))
writing_more n rest at text w le = go at w (positive at w.room)
  where
    positive : (at : ℕ) → rest < 16 ^ (at + 1) → 0 < at
    positive zero lt = absurd (omega arith)
    positive (suc k) lt = omega arith

    narrower : (at : ℕ) → rest < 16 ^ (at + 1) → rest / 16 < 16 ^ at
    narrower at lt = let wide : rest < 16 ^ suc at = rw add-one at lt in omega (arith, pow-suc 16 at)

    go : (at : ℕ) → Writing n rest at text → 0 < at → Writing n (rest / 16) (at - 1) (set text (at - 1) (digit_glyph false (rest / 16 % 16)))
    go at w some =
        let d = digit_glyph false (rest / 16 % 16) in
        let back : at - 1 + 1 ≡ at = omega arith in
        let kept : drop (at - 1 + 1) (set text (at - 1) d) ≡ drop at text = rest_set text (at - 1) d ∙ ap (λ i. drop i text) back in
        let more_digits : 49 + at ≡ suc (49 + (at - 1)) = omega arith in
        record {
          in_text = omega (arith, w.in_text);
          len = length-set text (at - 1) d ∙ w.len;
          room = rw back (narrower at w.room);
          first = first_set text (at - 1) d (omega (arith, w.len, w.in_text));
          all = ap (digits_onto (49 + (at - 1)) 16 false (rest / 16)) (kept ∙ w.first) ∙ sym (more (49 + (at - 1)) rest (drop (at + 1) text) le) ∙ ap (λ k. digits_onto k 16 false rest (drop (at + 1) text)) (sym more_digits) ∙ w.all;
        }

-- all digits are written
pub writing_end : (n rest at : ℕ) (text : List ℕ) → Writing n rest at text → rest < 16 → drop at text ≡ digits 16 false n
writing_end n rest at text w lt = grind (arith, common_steps)
