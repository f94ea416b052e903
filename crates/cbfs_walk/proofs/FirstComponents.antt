-- The first component with a name.
use Rattle.std.proofs.Common.{arith}
use Rattle.std.proofs.lemmas.Grind.{common_steps}
use Rattle.std.specs.Prelude.{Contains}
use Rattle.std.proofs.Common.{◌≡◌, ℕ, Bool, true, false, cond, List, [], ◌∷◌, ◌++◌, Option, Some, None, Ok, refl, sym, subst, ◌∙◌, ap, All}
use Rattle.std.specs.Str.{bytes_eq}
use Rattle.std.proofs.lemmas.List.Elements.{All-nil, All-cons, All-head, All-tail, All-contains}
use Rattle.std.proofs.lemmas.Slice.Eq.{bytes_eq-Decides}
use Rattle.flash_format.specs.Components.{Component, components}
use Rattle.cbfs_walk.specs.Search.{IsFirstOf, first_named, component_in}
use Rattle.cbfs_walk.specs.Shapes.{shape_fault}

abbrev IsOther : List ℕ → Component → Type 0
IsOther name c = bytes_eq c.name name ≡ false

-- ---- among components

-- a search finds the first component with the name, or none has the name
abbrev FirstIs : List ℕ → List Component → Option Component → Type 0
FirstIs name all None = All (IsOther name) all
FirstIs name all (Some c) = IsFirstOf name all c

named_first : (name : List ℕ) (all : List Component) → FirstIs name all (first_named name all)
named_first name [] = All-nil (IsOther name)
named_first name (c ∷ all) = go (bytes_eq c.name name) refl (first_named name all) (named_first name all)
  where
    go : (b : Bool) → bytes_eq c.name name ≡ b → (o : Option Component) → FirstIs name all o → FirstIs name (c ∷ all) (cond b (Some c) o)
    go true e o later = record { before = []; after = all; whole = refl; named = e; none_before = All-nil (IsOther name) }
    go false e None others = All-cons (IsOther name) c all e others
    go false e (Some d) is = record {
      before = c ∷ is.before;
      after = is.after;
      whole = ap (λ (l : List Component). c ∷ l) is.whole;
      named = is.named;
      none_before = All-cons (IsOther name) c is.before e is.none_before;
    }

pub none_named : (name : List ℕ) (all : List Component) → first_named name all ≡ None → All (IsOther name) all
none_named name all none = subst (λ (o : Option Component). FirstIs name all o) none (named_first name all)

pub first_is : (name : List ℕ) (before after : List Component) (c : Component) → bytes_eq c.name name ≡ true → All (IsOther name) before → first_named name (before ++ (c ∷ after)) ≡ Some c
first_is name [] after c named none = ap (λ b. cond b (Some c) (first_named name after)) named
first_is name (d ∷ before) after c named none =
    ap (λ b. cond b (Some d) (first_named name (before ++ (c ∷ after)))) (All-head (IsOther name) d before none)
    ∙ first_is name before after c named (All-tail (IsOther name) d before none)

is_first : (name : List ℕ) (all : List Component) (c : Component) → first_named name all ≡ Some c → IsFirstOf name all c
is_first name all c found = subst (λ (o : Option Component). FirstIs name all o) found (named_first name all)

pub same_name : (name : List ℕ) → bytes_eq name name ≡ true
same_name name = (bytes_eq-Decides name name).1 refl

-- ---- in a region

pub first_found : (x name : List ℕ) (c : Component) → shape_fault x ≡ None → IsFirstOf name (components x) c → component_in x name ≡ Ok (Some c)
unfolding component_in
first_found x name c good is = grind (arith, common_steps, first_is)

pub found_shape : (x name : List ℕ) (c : Component) → component_in x name ≡ Ok (Some c) → shape_fault x ≡ None
unfolding component_in
found_shape x name c found = grind (arith, common_steps)

pub found_first : (x name : List ℕ) (c : Component) → component_in x name ≡ Ok (Some c) → IsFirstOf name (components x) c
unfolding component_in
found_first x name c found = grind (arith, common_steps, is_first)

pub listed_found : (x : List ℕ) (c : Component) → shape_fault x ≡ None → Contains (components x) c → (d : Component) × (component_in x c.name ≡ Ok (Some d))
unfolding component_in
listed_found x c good listed = go (first_named c.name (components x)) refl
  where
    go : (o : Option Component) → first_named c.name (components x) ≡ o → (d : Component) × (component_in x c.name ≡ Ok (Some d))
    go None e =
        let other : bytes_eq c.name c.name ≡ false = All-contains (IsOther c.name) (components x) c (none_named c.name (components x) e) listed in
        absurd (let k : true ≡ false = sym (same_name c.name) ∙ other in cc)
    go (Some d) e = (d, first_found x c.name d good (is_first c.name (components x) d e))
