-- The start of a line, in a text and in its front.
use Rattle.std.proofs.lemmas.Bool.Decides.{nat_tests}
use Rattle.std.proofs.Common.{◌≡◌, ◌⊎◌, ℕ, zero, suc, ◌+◌, ◌-◌, ◌<◌, ◌≤◌, not, Bool, true, false, List, length, take, drop, get_or, length-drop, refl, sym, ◌∙◌, ap, arith, inl, inr, slice_index, subst}
use Rattle.std.proofs.lemmas.List.{get_or-drop, get_or-take, length-take-le}
use Rattle.std.proofs.lemmas.List.Sums.{prefix_len_stops}
use Rattle.std.specs.List.{prefix_len}
use Rattle.fmd_lang.specs.Positions.{BeginsLine, is_feed}

same-byte : (text : List ℕ) (at k : ℕ) → k < at → slice_index (take at text) k ≡ slice_index text k
same-byte text at k below = get_or-take at text k 0 below

pub begins-in : (text : List ℕ) (at start : ℕ) → at ≤ length text →
    BeginsLine (take at text) (length (take at text)) start → BeginsLine text at start
begins-in text at start inside line =
    let len : length (take at text) ≡ at = length-take-le at text inside in
    let before : start ≤ at = subst (λ n. start ≤ n) len line.before in
    record {
      before = before;
      begins = go start before line.begins;
      within = λ k from to. ap is_feed (sym (same-byte text at k to)) ∙ line.within k from (subst (λ n. k < n) (sym len) to);
    }
  where
    go : (s : ℕ) → s ≤ at → (s ≡ 0) ⊎ (is_feed (slice_index (take at text) (s - 1)) ≡ true) →
        (s ≡ 0) ⊎ (is_feed (slice_index text (s - 1)) ≡ true)
    go s few (inl none) = inl none
    go zero few (inr feed) = inl refl
    go (suc n) few (inr feed) = inr (ap is_feed (sym (same-byte text at (suc n - 1) (omega arith))) ∙ feed)

-- A line reaches at least as far as the offset.
pub reaches : (text : List ℕ) (at start n : ℕ) → at ≤ length text → BeginsLine text at start →
    n ≡ prefix_len (λ b. not (is_feed b)) (drop start text) → at - start ≤ n
reaches text at start n inside line len =
    let no : ¬ (n < at - start) = λ short.
    let p : ℕ → Bool = λ b. not (is_feed b) in
    let rest : length (drop start text) ≡ length text - start = length-drop start text in
    let below : prefix_len p (drop start text) < length (drop start text) = omega (arith, len, rest, line.before, short) in
    let stops : p (get_or (drop start text) (prefix_len p (drop start text)) 0) ≡ false = prefix_len_stops p (drop start text) 0 below in
    let here : get_or (drop start text) n 0 ≡ slice_index text (start + n) = get_or-drop start text n 0 in
    let other : is_feed (slice_index text (start + n)) ≡ false = line.within (start + n) (omega arith) (omega (arith, line.before, short)) in
    let feed : p (get_or (drop start text) n 0) ≡ false = rw len stops in
    grind (arith, nat_tests, here, other, feed) in
    omega (arith, no)
