-- The front of a list, taken in two steps.
use Rattle.std.proofs.Common.{◌≡◌, ℕ, ◌≤◌, List, length, min, take, arith, ◌∙◌, ap}
use Rattle.std.proofs.lemmas.List.{take_all, take_min}

pub front : (rest front : List ℕ) (most index : ℕ) → front ≡ take (min (length rest) most) rest → length front ≤ index →
    take index front ≡ take most rest
front rest items most index is done =
    let same : min (length rest) most ≡ min most (length rest) = omega arith in
    take_all index items (omega (arith, done)) ∙ is ∙ ap (λ n. take n rest) same ∙ take_min most rest
