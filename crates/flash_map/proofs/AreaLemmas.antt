-- Areas of a map, one by one.
use Rattle.std.proofs.Common.{◌≡◌, ℕ, ◌+◌, ◌-◌, ◌<◌, ◌≤◌, true, false, List, drop, Option, Some, None, suc, sym, ap, ◌∙◌, arith}
use Rattle.std.specs.List.{find}
use Rattle.std.proofs.lemmas.List.{drop-drop}
use Rattle.flash_format.specs.declared.flashmap.Area.{Area}
use Rattle.flash_format.specs.Flashmap.{area_of, areas_from, is_area}
use Rattle.flash_format.proofs.MapSteps.{area_step, area_end}

-- among n areas from an index on
abbrev pub named_from : List ℕ → List ℕ → ℕ → ℕ → Option Area
named_from image name n at = find (is_area name) (areas_from n (drop at image))

pub area_found : (image name : List ℕ) (n i at : ℕ) (a : Area) → i < n → a ≡ area_of (drop at image) → true ≡ is_area name a → Some a ≡ named_from image name (n - i) at
area_found image name n i at a lt e named =
    let k : n - i ≡ suc (n - (i + 1)) = omega arith in
    let here : is_area name (area_of (drop at image)) ≡ true = ap (is_area name) (sym e) ∙ sym named in
    ap (λ (b : Area). Some b) e ∙ sym (area_step (n - (i + 1)) (drop at image) name true here) ∙ ap (λ j. find (is_area name) (areas_from j (drop at image))) (sym k)

pub area_more : (image name : List ℕ) (n i at : ℕ) (a : Area) → i < n → a ≡ area_of (drop at image) → false ≡ is_area name a → named_from image name (n - (i + 1)) (at + 42) ≡ named_from image name (n - i) at
area_more image name n i at a lt e other =
    let k : n - i ≡ suc (n - (i + 1)) = omega arith in
    let here : is_area name (area_of (drop at image)) ≡ false = ap (is_area name) (sym e) ∙ sym other in
    ap (λ l. find (is_area name) (areas_from (n - (i + 1)) l)) (sym (drop-drop 42 at image))
    ∙ sym (area_step (n - (i + 1)) (drop at image) name false here) ∙ ap (λ j. find (is_area name) (areas_from j (drop at image))) (sym k)

pub area_none : (image name : List ℕ) (n i at : ℕ) → n ≤ i → None ≡ named_from image name (n - i) at
area_none image name n i at le =
    let k : n - i ≡ 0 = omega arith in
    sym (area_end (drop at image) name) ∙ ap (λ j. find (is_area name) (areas_from j (drop at image))) (sym k)
