-- Similar names, which differ by a single letter or by two exchanged letters: this project's own
-- measure.
use Rattle.std.specs.Prelude.{ℕ, Bool, false, List, [], ◌∷◌, ◌++◌, ◌||◌, ◌&&◌, drop, filter, not, ◌==◌, if◌then◌else◌}
use Rattle.std.specs.Str.{bytes_eq}

-- the first two letters are exchanged, and all other letters are equal
abbrev pub are_exchanged : List ℕ → List ℕ → Bool
are_exchanged (a ∷ b ∷ xs) (c ∷ d ∷ ys) = (a == d) && (b == c) && bytes_eq xs ys
are_exchanged xs ys = false

-- equal without the first letter of either or both, or with the first two letters exchanged
abbrev pub differ_in_front : List ℕ → List ℕ → Bool
differ_in_front xs ys = bytes_eq (drop 1 xs) ys || bytes_eq xs (drop 1 ys)
    || bytes_eq (drop 1 xs) (drop 1 ys) || are_exchanged xs ys

-- after their common prefix, the texts differ by at most a single missing, added or different
-- letter, or by two exchanged neighbours
unfoldable pub is_near : List ℕ → List ℕ → Bool
is_near [] ys = differ_in_front [] ys
is_near (x ∷ xs) [] = differ_in_front (x ∷ xs) []
is_near (x ∷ xs) (y ∷ ys) = if x == y then is_near xs ys else differ_in_front (x ∷ xs) (y ∷ ys)

-- the names near the argument, followed by the other names, both in their order
abbrev pub near_first : List ℕ → List (List ℕ) → List (List ℕ)
near_first word names =
    filter (is_near word) names ++ filter (λ name. not (is_near word name)) names
