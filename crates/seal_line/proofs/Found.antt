-- The first and the only element with a property.
use Rattle.std.proofs.Common.{◌≡◌, ◌+◌, ℕ, Bool, true, false, List, [], ◌∷◌, ◌++◌, length, Bor, Option, Some, None, option_map, refl, sym, ◌∙◌, ap, arith, get_or, length-append}
use Rattle.std.proofs.lemmas.List.Sums.{length-filter}
use Rattle.std.specs.List.{count_by, filter, find}
use Rattle.seal_line.specs.SealWords.{Words, only}

pub copied : (r : Option (Bor (List ℕ))) → r ≡ option_map (λ (w : Bor (List ℕ)). w) r
copied None = refl
copied (Some w) = refl

-- the elements of both lists
pub total : (p : Bor (List ℕ) → Bool) (xs ys : Words) → length (filter p xs ++ ys) ≡ count_by p xs + length ys
total p xs ys = length-append (filter p xs) ys ∙ ap (λ n. n + length ys) (length-filter p xs)

none_found : (p : Bor (List ℕ) → Bool) (xs : Words) → find p xs ≡ None → filter p xs ≡ []
none_found p [] e = refl
none_found p (x ∷ xs) e = grind (arith, none_found p xs)

-- the first element that passes begins the filtered list
data Begins (zs : Words) (w : Bor (List ℕ)) : Type 0 where
  begins : (rest : Words) → zs ≡ w ∷ rest → Begins zs w

found_step : (p : Bor (List ℕ) → Bool) (x : Bor (List ℕ)) (xs : Words) (w : Bor (List ℕ)) (b : Bool) → p x ≡ b
    → (find p xs ≡ Some w → Begins (filter p xs) w) → find p (x ∷ xs) ≡ Some w → Begins (filter p (x ∷ xs)) w
found_step p x xs w true is rest e =
    let here : Some x ≡ Some w = rw is at e in
    let same : x ≡ w = cc in
    begins (filter p xs) (rw is (ap (λ (z : Bor (List ℕ)). z ∷ filter p xs) same))
found_step p x xs w false is rest e = rw is (rest (rw is at e))

found_first : (p : Bor (List ℕ) → Bool) (xs : Words) (w : Bor (List ℕ)) → find p xs ≡ Some w → Begins (filter p xs) w
found_first p [] w e = absurd cc
found_first p (x ∷ xs) w e = found_step p x xs w (p x) refl (found_first p xs w) e

only_begun : (zs ys : Words) (w : Bor (List ℕ)) → Begins zs w → length (zs ++ ys) ≡ 1 → Some w ≡ only (zs ++ ys)
only_begun zs [] w (begins [] e) n = rw e refl
only_begun zs (y ∷ ys) w (begins [] e) n = absurd (let two : length ((w ∷ []) ++ (y ∷ ys)) ≡ 1 = rw e at n in omega arith)
only_begun zs ys w (begins (r ∷ rest) e) n = absurd (let two : length ((w ∷ r ∷ rest) ++ ys) ≡ 1 = rw e at n in omega arith)

-- the only element of both lists, if the first one has it
pub only_found : (p : Bor (List ℕ) → Bool) (xs ys : Words) (w : Bor (List ℕ)) → find p xs ≡ Some w
    → count_by p xs + length ys ≡ 1 → Some w ≡ only (filter p xs ++ ys)
only_found p xs ys w e n = only_begun (filter p xs) ys w (found_first p xs w e) (total p xs ys ∙ n)

-- the only element of both lists, if the first one has none
pub only_after : (p : Bor (List ℕ) → Bool) (xs ys : Words) → find p xs ≡ None → only ys ≡ only (filter p xs ++ ys)
only_after p xs ys e = rw (none_found p xs e) refl

-- the only element of a list of one
pub only_first : (p : Bor (List ℕ) → Bool) (xs ys : Words) (d : Bor (List ℕ)) → find p xs ≡ None
    → count_by p xs + length ys ≡ 1 → Some (get_or ys 0 d) ≡ only ys
only_first p xs ys d e n = first_of_one ys (sym (ap length (ap (λ (zs : Words). zs ++ ys) (none_found p xs e))) ∙ total p xs ys ∙ n)
  where
    first_of_one : (zs : Words) → length zs ≡ 1 → Some (get_or zs 0 d) ≡ only zs
    first_of_one [] one = absurd (omega arith)
    first_of_one (z ∷ []) one = refl
    first_of_one (z ∷ more ∷ zs) one = absurd (omega arith)

-- more elements, or none
pub only_many : (p : Bor (List ℕ) → Bool) (xs ys : Words) → (count_by p xs + length ys ≡ 1 → ⊥) → None ≡ only (filter p xs ++ ys)
only_many p xs ys not = none_of (filter p xs ++ ys) (λ one. not (sym (total p xs ys) ∙ one))
  where
    none_of : (zs : Words) → (length zs ≡ 1 → ⊥) → None ≡ only zs
    none_of [] other = refl
    none_of (z ∷ []) other = absurd (other refl)
    none_of (z ∷ more ∷ zs) other = refl
