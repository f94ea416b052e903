-- The search for a flash map and for an area, step by step.
use Rattle.std.proofs.Common.{◌≡◌, ℕ, suc, ◌+◌, ◌<◌, ◌≤◌, Bool, true, false, cond, List, ◌∷◌, length, drop, get_or, Some, None, refl, sym, ap, ◌∙◌, arith, length-drop, add-one, drop-cons}
use Rattle.std.proofs.lemmas.Bool.{le-leb, lt-leb}
use Rattle.std.proofs.lemmas.List.{nil_from_length}
use Rattle.std.specs.List.{find}
use Rattle.flash_format.specs.Flashmap.{has_signature, fmap_head_of, is_valid_head, is_map, map_from, areas_from, area_of, is_area}

-- ---- a map

pub not_map_short : (x : List ℕ) → length x < 56 → is_map x ≡ false
unfolding is_map
not_map_short x lt = rw (lt-leb 56 (length x) lt) refl

pub map_where : (x : List ℕ) (b : Bool) → 56 ≤ length x → has_signature x ≡ true → is_valid_head (fmap_head_of x) (length x) ≡ b → is_map x ≡ b
unfolding is_map
map_where x b le s v = rw (le-leb 56 (length x) le, s) v

-- ---- the lowest position

step : (at b : ℕ) (x whole : List ℕ) (here : Bool) → whole ≡ b ∷ x → is_map whole ≡ here → map_from at whole ≡ cond here (Some at) (map_from (at + 1) x)
unfolding map_from
step at b x whole here e h = ap (map_from at) e ∙ ap (λ c. cond c (Some at) (map_from (at + 1) x)) (sym (ap is_map e) ∙ h)

pub map_step : (image : List ℕ) (at : ℕ) (here : Bool) → at < length image → is_map (drop at image) ≡ here
    → map_from at (drop at image) ≡ cond here (Some at) (map_from (at + 1) (drop (at + 1) image))
map_step image at here lt e = step at (get_or image at 0) (drop (at + 1) image) (drop at image) here (rw add-one (drop-cons image at 0 lt)) e

pub map_end : (at : ℕ) (image : List ℕ) → length image ≤ at → map_from at (drop at image) ≡ None
unfolding map_from
map_end at image le = ap (map_from at) (nil_from_length (drop at image) (omega (arith, length-drop at image)))

-- ---- the first area of a name

pub area_step : (n : ℕ) (x name : List ℕ) (here : Bool) → is_area name (area_of x) ≡ here
    → find (is_area name) (areas_from (suc n) x) ≡ cond here (Some (area_of x)) (find (is_area name) (areas_from n (drop 42 x)))
unfolding areas_from
area_step n x name here e = ap (λ c. cond c (Some (area_of x)) (find (is_area name) (areas_from n (drop 42 x)))) e

pub area_end : (x name : List ℕ) → find (is_area name) (areas_from 0 x) ≡ None
unfolding areas_from
area_end x name = refl
