-- The last `@` of a text.
use Rattle.std.proofs.Common.{lit<, length-drop, zero, ◌+◌, ◌-◌, ◌≡◌, ◌≢◌, ◌<◌, ℕ, suc, List, length, get_or, drop, Option, Some, None, Bor, option_map, ap, refl, ◌∙◌, arith}
use Rattle.std.specs.Prelude.{MatchOption}
use Rattle.std.proofs.lemmas.List.{get_or-drop}
use Rattle.std.specs.Str.Pattern.{RFindsChar, SplitsAroundMatch}
use Rattle.std.proofs.lemmas.Str.Pattern.{NoCharPasses-char}
use Rattle.std.specs.Path.{rfind_below, rsplit_once}
use Rattle.std.proofs.lemmas.Bool.Decides.{nat_tests}
use Rattle.check_line.proofs.need.split_at_last.Goals as goal

no_find : (bs : List ℕ) (n : ℕ) → ((i : ℕ) → i < n → get_or bs i 0 ≢ 64) → rfind_below 64 bs n ≡ None
no_find bs zero none = refl
no_find bs (suc n) none =
    let rest = no_find bs n (λ i l. none i (omega (arith, l))) in
    let here = none n (omega arith) in
    grind (arith, nat_tests, here, rest)

find_at : (bs : List ℕ) (at n : ℕ) → at < n → get_or bs at 0 ≡ 64 → ((i : ℕ) → at < i → i < n → get_or bs i 0 ≢ 64) → rfind_below 64 bs n ≡ Some at
find_at bs at zero lt here none = absurd (omega arith)
find_at bs at (suc n) lt here none =
    let rest : at < n → rfind_below 64 bs n ≡ Some at = λ l. find_at bs at n l here (λ i more less. none i more (omega (arith, less))) in
    let other : at < n → get_or bs n 0 ≢ 64 = λ l. none n l (omega arith) in
    grind (arith, nat_tests, here, other, rest)

-- the result of `rsplit_once` at `@`
last_split : (bs : List ℕ) (r : Option (Bor (List ℕ) × Bor (List ℕ))) → MatchOption r (RFindsChar 64 bs None) (λ x. SplitsAroundMatch (RFindsChar 64) bs x.0.now x.1.now)
    → option_map (λ (parts : Bor (List ℕ) × Bor (List ℕ)). (parts.0.now, parts.1.now)) r ≡ rsplit_once 64 bs
unfolding rsplit_once
last_split bs None h = rw (no_find bs (length bs) (λ i. NoCharPasses-char 64 bs i h (lit< tt))) refl
last_split bs (Some x) h =
    let none : (i : ℕ) → i < length (drop h.1 bs) → get_or (drop h.1 bs) i 0 ≢ 64 = λ i. NoCharPasses-char 64 (drop h.1 bs) i h.2.0 (lit< tt) in
    let next : h.1 ≡ h.0 + 1 = h.2.1.ends in
    let later : (i : ℕ) → h.0 < i → i < length bs → get_or bs i 0 ≢ 64 = λ i more less is. none (i - h.1) (omega (arith, length-drop h.1 bs, more, less))
    (get_or-drop h.1 bs (i - h.1) 0 ∙ ap (λ k. get_or bs k 0) (omega (arith, more)) ∙ is) in
    rw (h.3, h.4, find_at bs h.0 (length bs) (omega (arith, h.7)) (h.2.1.byte (lit< tt)) later, next) refl

pub returns : goal.returns
returns c = last_split c.args.text.now c.rsplit_once.result c.rsplit_once.ensures.cases
