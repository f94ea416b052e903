-- Parts of lists: an element between others, and writes of bytes and padding.
use Rattle.std.proofs.Common.{◌≡◌, List, [], ◌∷◌, ◌++◌, All, refl, subst, zero, suc, rules, ℕ, ◌+◌, ◌-◌, ◌≤◌, length, take, drop, replicate, Option, Some, None, sym, ◌∙◌, ap, arith, append_assoc, length-append, length-drop}
use Rattle.std.proofs.lemmas.List.Elements.{All-head, All-tail}
use Rattle.std.proofs.lemmas.List.{take_at, drop_all, drop_at, drop-drop, drop-append-le, length-replicate, length-take-le, drop-replicate, replicate-append-replicate}
use Rattle.flash_format.specs.Made.{padding}
use Rattle.flash_device.specs.Device.{overwritten}
use Rattle.std.specs.Prelude.{slice_range}
use Rattle.flash_device.proofs.BytesLemmas.{slice_range_is}

-- ---- a list split at the only element with a property

-- equal parts and elements
pub record IsOneSplit {X : Type 0} (before after before' after' : List X) (x x' : X) : Type 0 where
  pub first : before ≡ before'
  pub same : x ≡ x'
  pub last : after ≡ after'

pub one_split : {X : Type 0} (P : X → Type 0) (before after before' after' : List X) (x x' : X) → P x → P x' → All (λ y. P y → ⊥) before → All (λ y. P y → ⊥) before'
    → before ++ (x ∷ after) ≡ before' ++ (x' ∷ after') → IsOneSplit before after before' after' x x'
one_split P [] after [] after' x x' here here' none none' is = let same : x ≡ x' = cc in let last : after ≡ after' = cc in record { first = refl; same = same; last = last }
one_split P [] after (y ∷ before') after' x x' here here' none none' is = absurd (let e : x ≡ y = cc in All-head (λ y. P y → ⊥) y before' none' (subst P e here))
one_split P (y ∷ before) after [] after' x x' here here' none none' is = absurd (let e : x' ≡ y = cc in All-head (λ y. P y → ⊥) y before none (subst P e here'))
one_split P (y ∷ before) after (y' ∷ before') after' x x' here here' none none' is =
    let behind : before ++ (x ∷ after) ≡ before' ++ (x' ∷ after') = cc in
    let rest = one_split P before after before' after' x x' here here' (All-tail (λ y. P y → ⊥) y before none) (All-tail (λ y. P y → ⊥) y' before' none') behind in
    let first : y ∷ before ≡ y' ∷ before' = cc in
    record { first = first; same = rest.same; last = rest.last }

-- ---- writes over recent writes

over_tail : (a t w : List ℕ) (at : ℕ) → length a ≡ at → overwritten (a ++ t) at w ≡ a ++ (w ++ drop (length w) t)
over_tail a t w at place =
    ap (λ (l : List ℕ). l ++ (w ++ drop (at + length w) (a ++ t))) (take_at a t at place)
    ∙ ap (λ (l : List ℕ). a ++ (w ++ l)) (sym (drop-drop (length w) at (a ++ t)) ∙ ap (λ (l : List ℕ). drop (length w) l) (drop_at a t at place))

-- a write over the middle of a recent write
pub over_part : (x : List ℕ) (at : ℕ) (u r new rest : List ℕ) (place : ℕ) → at ≤ length x → at + length u ≡ place → length new ≤ length r → drop (length new) r ≡ rest
    → overwritten (overwritten x at (u ++ r)) place new ≡ overwritten x at (u ++ (new ++ rest))
over_part x at u r new rest place inside is fits is_rest =
    let a : List ℕ = take at x ++ u in
    let z : List ℕ = drop (at + length (u ++ r)) x in
    let begins : length a ≡ place = omega (arith, length-append (take at x) u, length-take-le at x inside) in
    let long : length (u ++ r) ≡ length (u ++ (new ++ rest)) = omega (arith, length-append u r, length-append u (new ++ rest), length-append new rest, length-drop (length new) r, ap length is_rest, fits) in
    ap (λ (l : List ℕ). overwritten l place new) (let e : take at x ++ ((u ++ r) ++ z) ≡ a ++ (r ++ z) = simp append_assoc in e)
    ∙ over_tail a (r ++ z) new place begins
    ∙ ap (λ (l : List ℕ). a ++ (new ++ l)) (drop-append-le (length new) r z fits ∙ ap (λ (l : List ℕ). l ++ z) is_rest)
    ∙ (let e : a ++ (new ++ (rest ++ z)) ≡ take at x ++ ((u ++ (new ++ rest)) ++ z) = simp append_assoc in e)
    ∙ ap (λ n. take at x ++ ((u ++ (new ++ rest)) ++ drop (at + n) x)) long

-- ---- padding of an empty entry, in parts

drop_over : (n : ℕ) (xs ys : List ℕ) → drop n (xs ++ ys) ≡ drop n xs ++ drop (n - length xs) ys
drop_over n [] ys = let e : n - 0 ≡ n = omega arith in rw (drop_all {X = ℕ} n [] (omega arith), e) refl
drop_over zero (x ∷ xs) ys = search rules
drop_over (suc n) (x ∷ xs) ys = let e : suc n - suc (length xs) ≡ n - length xs = omega arith in rw e (drop_over n xs ys)

-- the rest of a padding
pub drop-padding : (a b : ℕ) (last : Option (List ℕ)) → drop a (padding (a + b) last) ≡ padding b last
drop-padding a b None = let e : a + b - a ≡ b = omega arith in rw (drop-replicate {X = ℕ} a (a + b) 0xff, e) refl
drop-padding a b (Some last) =
    let first : a + b - 4 - a ≡ b - 4 = omega arith in
    let rest : 4 - (a + b) + (a - (a + b - 4)) ≡ 4 - b = omega arith in
    drop_over a (replicate (a + b - 4) 0xff) (drop (4 - (a + b)) last) ∙ rw (drop-replicate {X = ℕ} a (a + b - 4) 0xff, first, length-replicate {A = ℕ} (a + b - 4) 0xff, drop-drop {A = ℕ} (a - (a + b - 4)) (4 - (a + b)) last, rest) refl

-- a padding begins with 0xff
pub padding-begins : (a b : ℕ) (last : Option (List ℕ)) → 4 ≤ b → padding (a + b) last ≡ replicate a 0xff ++ padding b last
padding-begins a b None some = sym (replicate-append-replicate {A = ℕ} a b 0xff)
padding-begins a b (Some last) some =
    let sum : a + b - 4 ≡ a + (b - 4) = omega arith in
    let none : 4 - (a + b) ≡ 0 = omega arith in
    let none_left : 4 - b ≡ 0 = omega arith in
    rw (sum, none, none_left, ← replicate-append-replicate {A = ℕ} a (b - 4) 0xff) (append_assoc (replicate a 0xff) (replicate (b - 4) 0xff) last)

-- ---- the content of an addition

part_at : (x before part after : List ℕ) (at : ℕ) → x ≡ before ++ (part ++ after) → length before ≡ at → slice_range x at (at + length part) ≡ part
part_at x before part after at is long = rw is (slice_range_is (before ++ (part ++ after)) at (length part) ∙ rw (drop_at before (part ++ after) at long) (take_at part after (length part) refl))

-- content after metadata
pub content_at : (x before metadata content pad after : List ℕ) (start at : ℕ) → start ≤ length x → start + length before + length metadata ≡ at
    → slice_range (overwritten x start (before ++ (((metadata ++ content) ++ pad) ++ after))) at (at + length content) ≡ content
content_at x before metadata content pad after start at inside there =
    let all : List ℕ = before ++ (((metadata ++ content) ++ pad) ++ after) in
    let rest : List ℕ = drop (start + length all) x in
    part_at (overwritten x start all) (take start x ++ (before ++ metadata)) content (pad ++ (after ++ rest)) at (simp append_assoc)
    (omega (arith, length-append (take start x) (before ++ metadata), length-append before metadata, length-take-le start x inside))
