-- The first component of each name, from the last component on.
use Rattle.std.proofs.Common.{◌≡◌, ℕ, ◌+◌, ◌<◌, ◌≤◌, Bool, true, false, cond, List, [], ◌∷◌, length, drop, get_or, Option, Some, None, refl, sym, subst, arith, add-one, suc, Bor}
use Rattle.std.specs.Prelude.{IfSome, All, option_copied}
use Rattle.std.specs.List.{find}
use Rattle.std.specs.Str.{bytes_eq}
use Rattle.std.specs.Cmp.Lexicographic.{nat_list_eq_equiv}
use Rattle.std.specs.HashMap.{HashMap, IsEmpty, UpdatesBy}
use Rattle.std.proofs.Math.Seq.{drop-cons, drop-length}
use Rattle.std.proofs.lemmas.Grind.{common_steps}
use Rattle.std.proofs.lemmas.List.Elements.{All-head, All-tail}
use Rattle.std.proofs.lemmas.Map.Text.{hash_map_updates_str}
use Rattle.check_changes.specs.declared.components.listing.Listed.{Listed}
use Rattle.check_changes.specs.Components.{first_of}
use Rattle.check_changes.specs.Components.{HasFirstComponents}

-- ---- the first element that passes a test

find-All : {X : Type 0} (P : X → Type 0) (p : X → Bool) (xs : List X) → All P xs → IfSome (find p xs) P
find-All P p [] all = tt
find-All P p (x ∷ xs) all = elim (p x) as (λ b. IfSome (cond b (Some x) (find p xs)) P) [
  | true ↦ All-head P x xs all
  | false ↦ find-All P p xs (All-tail P x xs all)
]

pub first_listed : (name : List ℕ) (all : List Listed) (P : Listed → Type 0) (found : Option (Bor Listed)) → option_copied found ≡ first_of name all → All P all → IfSome found (λ (l : Bor Listed). P l.now)
first_listed name all P None is lie = tt
first_listed name all P (Some l) is lie = subst (λ o. IfSome o P) (sym is) (find-All P _ all lie)

-- ---- the map of first components

module _ {S : Type 0} (old new : HashMap (Bor (List ℕ)) (Bor Listed) S) where
  -- the map after a new component of a name
  abbrev pub Puts : Bor Listed → List ℕ → Type 0
  Puts l text = UpdatesBy (λ x y. bytes_eq x.now y.now) (λ k. bytes_eq text k.now) old new (Some l)

  notes-front : (l : Bor Listed) (behind : List Listed) → Puts l l.now.name → HasFirstComponents old behind → HasFirstComponents new (l.now ∷ behind)
  notes-front l behind puts notes name =
      let put = hash_map_updates_str l.now.name old new (Some l) puts name in
      grind (arith, common_steps, put, nat_list_eq_equiv.symm l.now.name name, notes name)

  -- another component, before the noted components
  pub notes-more : (all : List Listed) (left i : ℕ) (l : Bor Listed) → left ≡ i + 1 → left ≤ length all → l.now ≡ get_or all i l.now → Puts l l.now.name → HasFirstComponents old (drop left all) → HasFirstComponents new (drop i all)
  notes-more all left i l one inside is puts notes =
      let lt : i < length all = omega (arith, one, inside) in
      rw (drop-cons all i l.now lt, sym is) (notes-front l (drop (suc i) all) puts (rw (one, add-one) at notes))

-- an empty map
pub notes-none : {S : Type 0} (first : HashMap (Bor (List ℕ)) (Bor Listed) S) (all : List Listed) → IsEmpty first → HasFirstComponents first (drop (length all) all)
notes-none first all empty name = rw (drop-length all, empty) refl
