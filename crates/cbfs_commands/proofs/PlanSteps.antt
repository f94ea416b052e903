-- A new image's flashmap, area by area, and its ranges.
use Rattle.std.proofs.lemmas.Grind.{common_steps}
use Rattle.std.proofs.Common.{◌≡◌, ℕ, zero, suc, ◌+◌, ◌*◌, ◌<◌, ◌≤◌, Bool, cond, List, [], ◌∷◌, ◌++◌, length, map, take, drop, set, append_assoc, get_or, replicate, Option, Some, None, Result, Ok, Err, refl, sym, ap, ◌∙◌, arith}
use Rattle.std.specs.Option.{option_or}
use Rattle.std.proofs.Math.Seq.{get_or-append_seam, set-append_seam}
use Rattle.std.proofs.lemmas.List.{drop-drop, drop_all, drop_more, length-map, length-take-le, map-append, take_all, take_more}
use Rattle.std.proofs.lemmas.List.Folds.{find-append}
use Rattle.flash_format.specs.declared.flashmap.Area.{Area}
use Rattle.flash_format.specs.Flashmap.{area_of, areas_from, is_area}
use Rattle.flash_device.specs.Regions.{Range}
use Rattle.cbfs_requests.specs.declared.refusal.Refusal.{Refusal}
use Rattle.flash_map.specs.Fmap.{first_area}

-- ---- the area of each name

-- the areas by f for the first i names, by g for the others, then more
module _ (f g : List ℕ → Option Area) (ns : List (List ℕ)) (rest : List (Option Area)) where
  abbrev pub partly : ℕ → List (Option Area)
  partly i = map f (take i ns) ++ (map g (drop i ns) ++ rest)

  pub partly-all : (i : ℕ) → length ns ≤ i → partly i ≡ map f ns ++ rest
  partly-all i le = rw (take_all i ns le, drop_all i ns le) refl

  module _ (i : ℕ) (d : List ℕ) (lt : i < length ns) where
    size : i ≡ length (map f (take i ns))
    size = sym (length-map (take i ns) f ∙ length-take-le i ns (omega (arith, lt)))

    next : partly i ≡ map f (take i ns) ++ g (get_or ns i d) ∷ (map g (drop (i + 1) ns) ++ rest)
    next = ap (λ (l : List (List ℕ)). map f (take i ns) ++ (map g l ++ rest)) (drop_more ns i d lt)

    pub partly-at : (e : Option Area) → get_or (partly i) i e ≡ g (get_or ns i d)
    partly-at e = ap (λ (l : List (Option Area)). get_or l i e) next ∙ ap (λ k. get_or (map f (take i ns) ++ g (get_or ns i d) ∷ (map g (drop (i + 1) ns) ++ rest)) k e) size ∙ get_or-append_seam (map f (take i ns)) (g (get_or ns i d)) (map g (drop (i + 1) ns) ++ rest) e

    pub partly-more : set (partly i) i (f (get_or ns i d)) ≡ partly (i + 1)
    partly-more = grind (arith, common_steps, append_assoc, map-append, next, set-append_seam, size, take_more)

-- one more area
pub noted-is : (seen : List Area) (name : List ℕ) (area : Area) (o : Option Area) (here : Bool) → o ≡ first_area seen name → here ≡ is_area name area → option_or o (cond here (Some area) None) ≡ first_area (seen ++ area ∷ []) name
noted-is seen name area o here e is = cc (e, is) ∙ sym (find-append (is_area name) seen (area ∷ []))

-- before the first area
pub none-found : (ns : List (List ℕ)) (n k : ℕ) → length ns + k ≡ n → replicate n (let o : Option Area = None in o) ≡ map (first_area []) ns ++ replicate k None
none-found [] n k e = let same : n ≡ k = omega (arith, e) in ap (λ m. replicate m (let o : Option Area = None in o)) same
none-found (name ∷ ns) zero k e = absurd (omega (arith, e))
none-found (name ∷ ns) (suc n) k e = ap (λ (l : List (Option Area)). None ∷ l) (none-found ns n k (omega (arith, e)))

pub areas-more : (n : ℕ) (x : List ℕ) → areas_from (suc n) x ≡ areas_from n x ++ area_of (drop (42 * n) x) ∷ []
unfolding areas_from
areas-more zero x = let first : 42 * 0 ≡ 0 = omega arith in ap (λ at. area_of (drop at x) ∷ []) (sym first)
areas-more (suc n) x =
    let next : 42 + 42 * n ≡ 42 * suc n = omega arith in
    ap (λ (l : List Area). area_of x ∷ l) (areas-more n (drop 42 x) ∙ ap (λ (y : List ℕ). areas_from n (drop 42 x) ++ area_of y ∷ []) (drop-drop (42 * n) 42 x ∙ ap (λ at. drop at x) next))

-- by the bytes before the areas
pub areas-and : (n : ℕ) (y z : List ℕ) (area : Area) → y ≡ z → area ≡ area_of (drop (56 + 42 * n) y) → areas_from n (drop 56 z) ++ area ∷ [] ≡ areas_from (n + 1) (drop 56 z)
areas-and n y z area same is =
    let next : suc n ≡ n + 1 = omega arith in
    let here = is ∙ ap (λ (l : List ℕ). area_of (drop (56 + 42 * n) l)) same ∙ ap area_of (sym (drop-drop (42 * n) 56 z)) in
    ap (λ (a : Area). areas_from n (drop 56 z) ++ a ∷ []) here ∙ sym (areas-more n (drop 56 z)) ∙ ap (λ k. areas_from k (drop 56 z)) next

-- ---- the ranges, one by one

-- the ranges so far and the others, or the error
abbrev pub joined : List Range → Result (List Range) Refusal → Result (List Range) Refusal
joined places (Err refusal) = Err refusal
joined places (Ok more) = Ok (places ++ more)
