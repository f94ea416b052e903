-- Neighbouring cells: their cut and components.
use Rattle.std.proofs.Common.{◌≡◌, ℕ, ◌+◌, Bool, cond, List, [], ◌∷◌, ◌++◌, length, take, drop, sym, ◌∙◌, ap, refl, arith, All, map, length-append, take-append-drop}
use Rattle.std.specs.List.{concat}
use Rattle.std.proofs.lemmas.Bool.Decides.{nat_tests}
use Rattle.flash_format.specs.Cut.{cut, after, IsCell}
use Rattle.flash_format.specs.Components.{Component, components_from}
use Rattle.flash_format.proofs.CutLaws.{cut_joined}

pub cut_goes_on : (x : List ℕ) (at : ℕ) (cells : List (List ℕ)) → All IsCell cells → take at x ≡ concat cells → cut x ≡ after cells (cut (drop at x))
cut_goes_on x at cells each e = ap (λ (l : List ℕ). cut l) (sym (take-append-drop at x) ∙ ap (λ (l : List ℕ). l ++ drop at x) e) ∙ cut_joined cells (drop at x) each

one_more : (b : Bool) (c : Component) (later other : List Component) → cond b later (c ∷ later) ++ other ≡ cond b (later ++ other) (c ∷ (later ++ other))
one_more b c later other = grind (arith, nat_tests)

pub components-append : (at : ℕ) (a b : List (List ℕ)) → components_from at (a ++ b) ≡ components_from at a ++ components_from (at + length (concat a)) b
unfolding components_from
components-append at [] b = ap (λ n. components_from n b) (omega arith)
components-append at (c ∷ a) b = grind (arith, length-append, one_more, components-append (at + length c) a b)

-- positions increased by n
abbrev shifted_by : ℕ → List Component → List Component
shifted_by n all = map (λ (c : Component). record c { at = n + c.at }) all

move_one : (b : Bool) (n : ℕ) (c : Component) (later : List Component) → cond b (shifted_by n later) (record c { at = n + c.at } ∷ shifted_by n later) ≡ shifted_by n (cond b later (c ∷ later))
move_one b n c later = grind (arith, nat_tests)

pub components-moved : (n at : ℕ) (cells : List (List ℕ)) → components_from (n + at) cells ≡ shifted_by n (components_from at cells)
unfolding components_from
components-moved n at [] = refl
components-moved n at (c ∷ cells) = grind (arith, move_one, components-moved n (at + length c) cells)
