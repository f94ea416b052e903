-- The areas of a map, in order.
use Rattle.std.proofs.Common.{◌≡◌, ℕ, zero, suc, ◌+◌, ◌*◌, List, [], ◌∷◌, ◌++◌, drop, sym, ap, ◌∙◌, add-one, arith}
use Rattle.std.specs.Prelude.{map}
use Rattle.std.specs.List.{enumerate_from}
use Rattle.std.proofs.lemmas.List.{drop-drop}
use Rattle.flash_format.specs.declared.flashmap.Area.{Area}
use Rattle.flash_format.specs.Flashmap.{area_of, areas_from}
use Rattle.check_findings.specs.declared.areas.NumberedArea.{NumberedArea}

-- the areas with indices from `number`
abbrev pub numbered_from : ℕ → List Area → List NumberedArea
numbered_from number areas = map (λ p. record { number = p.0; area = p.1 }) (enumerate_from number areas)

abbrev area_at : List ℕ → ℕ → ℕ → NumberedArea
area_at x number at = record { number = number; area = area_of (drop at x) }

areas-last : (x : List ℕ) (k n : ℕ) → numbered_from k (areas_from (suc n) x) ≡ numbered_from k (areas_from n x) ++ area_at x (k + n) (42 * n) ∷ []
unfolding areas_from
areas-last x k zero = ap (λ m. area_at x m 0 ∷ []) {x = k} {y = k + 0} (omega arith) ∙ ap (λ m. area_at x (k + 0) m ∷ []) {x = 0} {y = 42 * 0} (omega arith)
areas-last x k (suc n) =
    let later = numbered_from (k + 1) (areas_from n (drop 42 x)) in
    ap (λ (l : List NumberedArea). area_at x k 0 ∷ l) (
    areas-last (drop 42 x) (k + 1) n
    ∙ ap (λ m. later ++ area_at (drop 42 x) m (42 * n) ∷ []) {x = k + 1 + n} {y = k + suc n} (omega arith)
    ∙ ap (λ (y : List ℕ). later ++ record { number = k + suc n; area = area_of y } ∷ []) (drop-drop (42 * n) 42 x ∙ ap (λ m. drop m x) {x = 42 + 42 * n} {y = 42 * suc n} (omega arith))
    )

-- another area is read
pub areas-more : (image : List ℕ) (at i : ℕ) (before after : List NumberedArea) (area : Area) → area ≡ area_of (drop (at + 42 * i) image) → after ≡ before ++ record { number = i; area = area } ∷ []
    → before ≡ numbered_from 0 (areas_from i (drop at image)) → after ≡ numbered_from 0 (areas_from (i + 1) (drop at image))
areas-more image at i before after area is pushed so_far =
    rw (add-one i, areas-last (drop at image) 0 i, drop-drop (42 * i) at image, sym so_far, pushed, is) (ap (λ n. before ++ area_at image n (at + 42 * i) ∷ []) {x = i} {y = 0 + i} (omega arith))
