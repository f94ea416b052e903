-- The names of a map's areas, one by one.
use Rattle.std.proofs.Common.{◌≡◌, ◌∙◌, ℕ, suc, ◌+◌, ◌-◌, ◌<◌, ◌≤◌, List, [], ◌∷◌, ◌++◌, drop, map, refl, sym, ap, arith}
use Rattle.std.specs.Global.{Vec}
use Rattle.std.proofs.lemmas.Grind.{common_steps}
use Rattle.std.proofs.lemmas.List.{drop-drop, map-append}
use Rattle.flash_format.specs.Flashmap.{area_of, areas_from, text_of}
use Rattle.flash_format.specs.declared.flashmap.Area.{Area}

-- of areas
abbrev pub texts_of : List Area → List (List ℕ)
texts_of areas = map (λ (area : Area). text_of area.name) areas

-- of a vector, as lists
abbrev pub names_of : List (Vec ℕ) → List (List ℕ)
names_of names = map (λ (name : Vec ℕ). name.items) names

-- of n areas from an offset on
abbrev pub texts_from : List ℕ → ℕ → ℕ → List (List ℕ)
texts_from image n at = texts_of (areas_from n (drop at image))

-- with another area, and with none
areas_step : (n : ℕ) (x : List ℕ) → areas_from (suc n) x ≡ area_of x ∷ areas_from n (drop 42 x)
unfolding areas_from
areas_step n x = refl

areas_end : (x : List ℕ) → areas_from 0 x ≡ []
unfolding areas_from
areas_end x = refl

-- the next area's name comes first
text_more : (image : List ℕ) (n i at : ℕ) (a : Area) → i < n → a ≡ area_of (drop at image)
    → text_of a.name ∷ texts_from image (n - (i + 1)) (at + 42) ≡ texts_from image (n - i) at
text_more image n i at a lt e =
    let left = n - (i + 1) in
    let k : n - i ≡ suc left = omega arith in
    ap (λ l. text_of a.name ∷ texts_of (areas_from left l)) (sym (drop-drop 42 at image))
    ∙ ap (λ (b : Area). text_of b.name ∷ texts_of (areas_from left (drop 42 (drop at image)))) e
    ∙ ap texts_of (sym (areas_step left (drop at image)))
    ∙ ap (λ j. texts_of (areas_from j (drop at image))) (sym k)

-- the next name is that of the next area
pub name_added : (old new : List (Vec ℕ)) (name : Vec ℕ) (image : List ℕ) (n i at : ℕ) (a : Area) → i < n
    → a ≡ area_of (drop at image) → new ≡ old ++ name ∷ [] → name.items ≡ text_of a.name
    → names_of new ++ texts_from image (n - (i + 1)) (at + 42) ≡ names_of old ++ texts_from image (n - i) at
name_added old new name image n i at a lt e added told =
    grind (arith, common_steps, map-append, added, told, text_more image n i at a lt e)

-- no name is left
pub all_named : (names : List (List ℕ)) (image : List ℕ) (n i at : ℕ) → n ≤ i
    → names ++ texts_from image (n - i) at ≡ names
all_named names image n i at le =
    let k : n - i ≡ 0 = omega arith in
    grind (arith, common_steps, k, areas_end (drop at image))
