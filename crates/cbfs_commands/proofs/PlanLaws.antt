-- A plan fits its image, and its ranges lie apart.
use Rattle.std.proofs.lemmas.Grind.{common_steps}
use Rattle.std.proofs.Common.{◌≡◌, ℕ, ◌+◌, ◌≤◌, ◌==◌, Bool, false, cond, All, List, [], ◌∷◌, length, map, drop, Option, Some, None, Result, Ok, Err, subst, arith, true}
use Rattle.std.specs.Prelude.{nat_lt}
use lib.Chars.{codes}
use Rattle.cbfs_walk.specs.Shapes.{has_bad_size}
use Rattle.std.specs.List.{AllPairs, list_any}
use Rattle.std.specs.Option.{ok_or}
use Rattle.std.proofs.lemmas.Bool.{and_parts, or_parts}
use Rattle.std.proofs.lemmas.Bool.Decides.{nat_tests}
use Rattle.std.proofs.lemmas.List.Elements.{All-nil, All-cons}
use Rattle.std.proofs.lemmas.List.Kept.{AllPairs-cons}
use Rattle.flash_format.specs.declared.flashmap.FmapHead.{FmapHead}
use Rattle.flash_format.specs.declared.flashmap.Area.{Area}
use Rattle.flash_format.specs.Flashmap.{areas_from, fmap_head_len, is_map, map_len}
use Rattle.flash_map.specs.Fmap.{first_area, map_head}
use Rattle.flash_device.specs.Laws.{LieApart}
use Rattle.flash_device.specs.Regions.{Range}
use Rattle.flash_map.specs.Regions.{region_by_area}
use Rattle.flash_map.proofs.FmapLemmas.{head_some, valid_fits}
use Rattle.cbfs_commands.specs.declared.create.plan.Plan.{Plan}
use Rattle.cbfs_requests.specs.declared.refusal.Refusal.{Refusal}
use Rattle.cbfs_requests.specs.declared.refusal.Refusal.TheVariants as refusals
use Rattle.cbfs_commands.specs.Creations.{IsPlace, head_for, map_place, share_bytes, plan_for, region_places, some_overlap}
use Rattle.cbfs_requests.specs.Requests.{fault_or, store_refusal}
use Rattle.cbfs_commands.proofs.RegionPlaces.{inside_lies}

-- each step succeeded
done : {T U E : Type 0} (tell : E → Refusal) (r : Result T E) (next : T → Result U Refusal) (x : U) → fault_or (λ fault. Err (tell fault)) r next ≡ Ok x → (value : T) × (r ≡ Ok value) × (next value ≡ Ok x)
done tell r next x is = grind (arith, common_steps)

passed : {T : Type 0} (bad : Bool) (refusal : Refusal) (next : Result T Refusal) (x : T) → (let r : Result T Refusal = cond bad (Err refusal) next in r) ≡ Ok x → (bad ≡ false) × (next ≡ Ok x)
passed bad refusal next x is = grind (arith, common_steps)

-- ---- the regions

pub are_places : (n : ℕ) (areas : List (Option Area)) (places : List Range) → region_places n areas ≡ Ok places → All (IsPlace n) places
are_places n [] places is =
    let same : [] ≡ places = cc in
    subst (λ (l : List Range). All (IsPlace n) l) same (All-nil (IsPlace n))
are_places n (area ∷ areas) places is =
    let first = done store_refusal (region_by_area n area) _ places is in
    let sized = passed (has_bad_size first.0.size) _ _ places first.2 in
    let others = done (λ refusal. refusal) (region_places n areas) _ places sized.1 in
    let last = others.2 in
    let same : first.0 ∷ others.0 ≡ places = cc in
    let place : IsPlace n first.0 = record { inside = inside_lies n area first.0 first.1; size = sized.0 } in
    subst (λ (l : List Range). All (IsPlace n) l) same (All-cons (IsPlace n) first.0 others.0 place (are_places n areas others.0 others.1))

-- ---- no overlaps

pub lie_apart : (a b : Range) → share_bytes a b ≡ false → LieApart a b
lie_apart a b none = grind (arith, nat_tests)

apart_from : (place : Range) (others : List Range) → list_any (share_bytes place) others ≡ false → All (LieApart place) others
apart_from place others none = grind (arith, common_steps)

pub all_apart : (places : List Range) → some_overlap places ≡ false → AllPairs LieApart places
all_apart [] none = λ i j d order below. absurd (omega arith)
all_apart (place ∷ places) none =
    let parts = or_parts (list_any (share_bytes place) places) (some_overlap places) none in
    AllPairs-cons LieApart place places (apart_from place places parts.0) (all_apart places parts.1)

-- ---- the plan

table_fits : (source : List ℕ) (head : FmapHead) → map_head source ≡ Some head → map_len head ≤ length source
unfolding is_map
table_fits source head is = grind (arith, common_steps, and_parts, head_some, valid_fits)

pub record IsPlanned (n m : ℕ) (plan : Plan) : Type 0 where
  pub in_source : plan.map_len ≤ m
  pub room : plan.map_len ≤ plan.map.size
  pub map : plan.map.start + plan.map.size ≤ n
  pub regions : All (IsPlace n) plan.regions.items
  pub none : some_overlap (plan.map ∷ plan.regions.items) ≡ false

pub ranges_planned : (n m len : ℕ) (area : Option Area) (areas : List (Option Area)) (own : Range) (places : List Range) → len ≤ m → region_by_area n area ≡ Ok own → nat_lt own.size len ≡ false → region_places n areas ≡ Ok places
    → some_overlap (own ∷ places) ≡ false → IsPlanned n m (record { map = own; map_len = len; regions = record { items = places } })
ranges_planned n m len area areas own places in_source found roomy regions none =
    record { in_source = in_source; room = enough own.size len roomy; map = inside_lies n area own found; regions = are_places n areas places regions; none = none }
  where
    enough : (size len : ℕ) → nat_lt size len ≡ false → len ≤ size
    enough size len none = grind (arith, nat_tests)

known : (o : Option FmapHead) (head : FmapHead) → (let r : Result FmapHead Refusal = ok_or o refusals.TableBad in r) ≡ Ok head → o ≡ Some head
known None head is = absurd cc
known (Some own) head is = cc

kept : {T : Type 0} (good : Bool) (made value : T) (refusal : Refusal) → (let r : Result T Refusal = cond good (Ok made) (Err refusal) in r) ≡ Ok value → made ≡ value
kept true made value refusal is = cc
kept false made value refusal is = absurd cc

same_range : (made range : Range) → (let r : Result Range Refusal = Ok made in r) ≡ Ok range → made ≡ range
same_range made range is = cc

same_plan : (made plan : Plan) → (let r : Result Plan Refusal = Ok made in r) ≡ Ok plan → made ≡ plan
same_plan made plan is = cc

pub planned : (n : ℕ) (names : List (List ℕ)) (source : List ℕ) (plan : Plan) → plan_for n names source ≡ Ok plan → IsPlanned n (length source) plan
unfolding plan_for
planned n names source plan is =
    let head = done (λ refusal. refusal) (head_for n source) _ plan is in
    let read = done (λ refusal. refusal) (ok_or (map_head source) refusals.TableBad) _ head.0 head.1 in
    let is_head = kept (read.0.size == n) read.0 head.0 refusals.TableBad read.2 in
    let found = subst (λ (h : FmapHead). (let r : Result FmapHead Refusal = ok_or (map_head source) refusals.TableBad in r) ≡ Ok h) is_head read.1 in
    let areas = areas_from head.0.nareas (drop fmap_head_len source) in
    let place = done (λ refusal. refusal) (map_place n head.0 areas) _ plan head.2 in
    let own = done (λ fault. refusals.FmapArea) (region_by_area n (first_area areas (codes "FMAP"))) _ place.0 place.1 in
    let roomy = passed (nat_lt own.0.size (map_len head.0)) _ _ place.0 own.2 in
    let is_place = same_range own.0 place.0 roomy.1 in
    let places = done (λ refusal. refusal) (region_places n (map (first_area areas) names)) _ plan place.2 in
    let apart = passed (some_overlap (place.0 ∷ places.0)) _ _ plan places.2 in
    subst (λ (q : Plan). IsPlanned n (length source) q) (same_plan _ plan apart.1)
    (ranges_planned n (length source) (map_len head.0) _ _ place.0 places.0 (table_fits source head.0 (known (map_head source) head.0 found))
    (subst (λ (p : Range). region_by_area n (first_area areas (codes "FMAP")) ≡ Ok p) is_place own.1) (subst (λ (p : Range). nat_lt p.size (map_len head.0) ≡ false) is_place roomy.0) places.1 apart.0)
