-- The areas of a map, one by one, up to one with a property.
use Rattle.std.proofs.Common.{◌≡◌, ◌∙◌, ℕ, ◌+◌, ◌-◌, ◌<◌, ◌≤◌, Bool, true, false, List, drop, suc, sym, ap, arith}
use Rattle.std.specs.Prelude.{◌||◌}
use Rattle.std.specs.List.{list_any}
use Rattle.std.proofs.lemmas.List.{drop-drop}
use Rattle.flash_format.specs.declared.flashmap.Area.{Area}
use Rattle.flash_format.specs.Flashmap.{area_of, areas_from}

module _ (is : Area → Bool) where
  -- among n areas from an offset on
  abbrev pub any_from : List ℕ → ℕ → ℕ → Bool
  any_from image n at = list_any is (areas_from n (drop at image))

  any_step : (image : List ℕ) (n at : ℕ) → any_from image (suc n) at ≡ (is (area_of (drop at image)) || any_from image n (at + 42))
  unfolding areas_from
  any_step image n at = ap (λ (l : List ℕ). is (area_of (drop at image)) || list_any is (areas_from n l)) (drop-drop 42 at image)

  next : (image : List ℕ) (n i at : ℕ) (a : Area) → i < n → a ≡ area_of (drop at image)
      → any_from image (n - i) at ≡ (is a || any_from image (n - (i + 1)) (at + 42))
  next image n i at a lt e =
      let k : n - i ≡ suc (n - (i + 1)) = omega arith in
      ap (λ j. any_from image j at) k ∙ any_step image (n - (i + 1)) at
      ∙ ap (λ (b : Area). is b || any_from image (n - (i + 1)) (at + 42)) (sym e)

  -- an area has the property
  pub any_found : (image : List ℕ) (n i at : ℕ) (a : Area) → i < n → a ≡ area_of (drop at image) → true ≡ is a → true ≡ any_from image (n - i) at
  any_found image n i at a lt e has =
      sym (next image n i at a lt e ∙ ap (λ b. b || any_from image (n - (i + 1)) (at + 42)) (sym has))

  -- an area has not
  pub any_more : (image : List ℕ) (n i at : ℕ) (a : Area) → i < n → a ≡ area_of (drop at image) → false ≡ is a
      → any_from image (n - (i + 1)) (at + 42) ≡ any_from image (n - i) at
  any_more image n i at a lt e has =
      sym (next image n i at a lt e ∙ ap (λ b. b || any_from image (n - (i + 1)) (at + 42)) (sym has))

  -- no area is left
  pub any_none : (image : List ℕ) (n i at : ℕ) → n ≤ i → false ≡ any_from image (n - i) at
  unfolding areas_from
  any_none image n i at le = let k : n - i ≡ 0 = omega arith in sym (ap (λ j. any_from image j at) k)
