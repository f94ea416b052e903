-- An image's map is the lowest valid map.
use Rattle.std.proofs.lemmas.Bool.Decides.{nat_tests}
use Rattle.std.proofs.Common.{◌≡◌, ℕ, zero, suc, ◌+◌, Bool, true, false, cond, List, [], ◌∷◌, length, drop, Option, Some, None, refl, sym, subst, ◌∙◌, arith}
use Rattle.std.specs.Prelude.{MatchOption}
use Rattle.flash_format.specs.Flashmap.{is_map, map_from}
use Rattle.flash_format.specs.Laws.{NoMapBelow}

-- the lowest valid map; without a position, no map
abbrev pub IsMapOf : List ℕ → Option ℕ → Type 0
IsMapOf image found = MatchOption found (NoMapBelow image (length image)) (λ q. (is_map (drop q image) ≡ true) × NoMapBelow image q)

-- the lowest map of bytes with the first at `at`
record IsLowest (at : ℕ) (x : List ℕ) (q : ℕ) : Type 0 where
  behind : ℕ
  place : q ≡ at + behind
  here : is_map (drop behind x) ≡ true
  before : NoMapBelow x behind

abbrev IsMapFrom : ℕ → List ℕ → Option ℕ → Type 0
IsMapFrom at x (Some q) = IsLowest at x q
IsMapFrom at x None = NoMapBelow x (length x)

one_more : (b : ℕ) (x : List ℕ) (n : ℕ) → is_map (b ∷ x) ≡ false → NoMapBelow x n → NoMapBelow (b ∷ x) (suc n)
one_more b x n e none zero lt is = absurd (let no : true ≡ false = sym is ∙ e in cc)
one_more b x n e none (suc k) lt is = none k (omega arith) is

behind_one : (at b : ℕ) (x : List ℕ) (o : Option ℕ) → is_map (b ∷ x) ≡ false → IsMapFrom (at + 1) x o → IsMapFrom at (b ∷ x) o
behind_one at b x None e none = subst (λ n. NoMapBelow (b ∷ x) n) (omega arith) (one_more b x (length x) e none)
behind_one at b x (Some q) e known = record {
  behind = suc known.behind;
  place = omega (arith, known.place);
  here = known.here;
  before = one_more b x known.behind e known.before;
}

at_front : (at b : ℕ) (x : List ℕ) (here : Bool) → is_map (b ∷ x) ≡ here → IsMapFrom (at + 1) x (map_from (at + 1) x) → IsMapFrom at (b ∷ x) (cond here (Some at) (map_from (at + 1) x))
at_front at b x true e others = record { behind = 0; place = omega arith; here = e; before = λ k lt is. absurd (omega arith) }
at_front at b x false e others = behind_one at b x (map_from (at + 1) x) e others

map_is : (at : ℕ) (x : List ℕ) → IsMapFrom at x (map_from at x)
unfolding map_from
map_is at [] = λ k lt is. absurd (omega arith)
map_is at (b ∷ x) = at_front at b x (is_map (b ∷ x)) refl (map_is (at + 1) x)

pub map_lowest : (image : List ℕ) → IsMapOf image (map_from 0 image)
map_lowest image = grind (arith, nat_tests, map_is)
