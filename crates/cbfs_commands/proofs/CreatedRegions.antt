-- Each region formatted by `create` is one free cell, and its ranges lie apart.
use Rattle.std.proofs.lemmas.Grind.{common_steps}
use Rattle.std.proofs.Common.{◌≡◌, ℕ, ◌-◌, ◌%◌, ◌^◌, ◌<◌, ◌≤◌, false, All, List, [], ◌∷◌, length, take, replicate, Some, Ok, refl, sym, ◌∙◌, ap, subst, arith, length-take, length-drop}
use Rattle.std.specs.Prelude.{fold}
use Rattle.std.specs.List.{list_any}
use Rattle.std.proofs.lemmas.Bool.{or_parts}
use Rattle.std.proofs.lemmas.List.{length-replicate}
use Rattle.std.proofs.lemmas.List.Elements.{All-nil, All-cons, All-head, All-tail}
use Rattle.flash_format.proofs.Placings.{empty_is_space}
use Rattle.flash_device.specs.Device.{overwritten}
use Rattle.flash_device.specs.Laws.{LieApart, with_edit}
use Rattle.flash_device.specs.Regions.{Range, LiesIn, bytes_in}
use Rattle.flash_device.proofs.BytesLemmas.{length-overwritten}
use Rattle.flash_device.proofs.DeviceLemmas.{length-bytes_in}
use Rattle.flash_device.proofs.RegionLemmas.{written_beside}
use Rattle.cbfs_walk.specs.Shapes.{has_bad_size}
use Rattle.cbfs_walk.proofs.StepResults.{good_size}
use Rattle.cbfs_edit.specs.Changes.{IsOneFreeCell, formatted}
use Rattle.cbfs_edit.specs.Removals.{last_four}
use Rattle.cbfs_edit.proofs.FormatLemmas.{formatted_free}
use Rattle.cbfs_commands.specs.declared.create.plan.Plan.{Plan}
use Rattle.cbfs_commands.specs.Creations.{IsPlace, plan_for, share_bytes, some_overlap}
use Rattle.cbfs_commands.specs.Laws.{IsSoundPlan}
use Rattle.cbfs_commands.proofs.RegionPlaces.{whole_over}
use Rattle.cbfs_commands.proofs.PlanLaws.{IsPlanned, all_apart, lie_apart, planned}

positive : (size : ℕ) → has_bad_size size ≡ false → 0 < size
positive size good = grind (arith, common_steps)

-- as empty entries, in order
abbrev all_formatted : List ℕ → List Range → List ℕ
all_formatted image places = fold (λ x place. with_edit place formatted x) image places

module _ (n : ℕ) (image : List ℕ) (long : length image ≡ n) (place : Range) (is : IsPlace n place) where
  lies : LiesIn place image
  lies = omega (arith, is.inside, long)

  whole : place.size % 64 ≡ 0
  whole = good_size place.size (sym is.size)

  some : 64 ≤ place.size
  some = omega (arith, whole, positive place.size is.size)

  region_long : length (bytes_in place image) ≡ place.size
  region_long = length-bytes_in place image lies

  formatted_long : length (formatted (bytes_in place image)) ≡ place.size
  formatted_long =
      let four : length (last_four (bytes_in place image)) ≡ 4 = omega (arith, length-drop (length (bytes_in place image) - 4) (bytes_in place image), region_long, some) in
      (empty_is_space (length (bytes_in place image)) (Some (last_four (bytes_in place image))) (omega (arith, region_long, some)) four).long ∙ region_long

  image_long : length (with_edit place formatted image) ≡ n
  image_long = length-overwritten image place.start (formatted (bytes_in place image)) (omega (arith, formatted_long, is.inside, long)) ∙ long

  -- the region itself
  here : bytes_in place (with_edit place formatted image) ≡ formatted (bytes_in place image)
  here = whole_over place image (formatted (bytes_in place image)) lies formatted_long

  -- any other region
  beside : (other : Range) → LieApart other place → bytes_in other (with_edit place formatted image) ≡ bytes_in other image
  beside other apart = grind (arith, common_steps, formatted_long, written_beside)

  free : n < 2 ^ 32 → IsOneFreeCell (bytes_in place (with_edit place formatted image))
  free small =
      subst (λ (l : List ℕ). IsOneFreeCell l) (sym here)
      (formatted_free (bytes_in place image) (omega (arith, region_long, some)) (ap (λ k. k % 64) region_long ∙ whole) (omega (arith, region_long, is.inside, small)))

-- later formats leave a region unchanged
untouched : (n : ℕ) (image : List ℕ) (other : Range) (places : List Range) → length image ≡ n → All (IsPlace n) places → list_any (share_bytes other) places ≡ false → bytes_in other (all_formatted image places) ≡ bytes_in other image
untouched n image other [] long each none = refl
untouched n image other (place ∷ places) long each none =
    let is : IsPlace n place = All-head (IsPlace n) place places each in
    let parts = or_parts (share_bytes other place) (list_any (share_bytes other) places) none in
    untouched n (with_edit place formatted image) other places (image_long n image long place is) (All-tail (IsPlace n) place places each) parts.1 ∙ beside n image long place is other (lie_apart other place parts.0)

all_free : (n : ℕ) (image : List ℕ) (places : List Range) → n < 2 ^ 32 → length image ≡ n → All (IsPlace n) places → some_overlap places ≡ false → All (λ (place : Range). IsOneFreeCell (bytes_in place (all_formatted image places))) places
all_free n image [] small long each none = All-nil (λ (place : Range). IsOneFreeCell (bytes_in place image))
all_free n image (place ∷ places) small long each none =
    let is : IsPlace n place = All-head (IsPlace n) place places each in
    let others : All (IsPlace n) places = All-tail (IsPlace n) place places each in
    let parts = or_parts (list_any (share_bytes place) places) (some_overlap places) none in
    let next : List ℕ = with_edit place formatted image in
    let long_next : length (with_edit place formatted image) ≡ n = image_long n image long place is in
    All-cons (λ (p : Range). IsOneFreeCell (bytes_in p (all_formatted next places))) place places
    (subst (λ (l : List ℕ). IsOneFreeCell l) (sym (untouched n next place places long_next others parts.0)) (free n image long place is small))
    (all_free n next places small long_next others parts.1)

pub laid : (n : ℕ) (source : List ℕ) (plan : Plan) → IsPlanned n (length source) plan → IsSoundPlan n source plan
laid n source plan k =
    let erased : List ℕ = replicate n 0xff in
    let flashmap : List ℕ = take plan.map_len source in
    let long_erased : length erased ≡ n = length-replicate {A = ℕ} n 0xff in
    let long : length (overwritten erased plan.map.start flashmap) ≡ n = length-overwritten erased plan.map.start flashmap (omega (arith, length-take plan.map_len source, k.room, k.map, long_erased)) ∙ long_erased in
    let parts = or_parts (list_any (share_bytes plan.map) plan.regions.items) (some_overlap plan.regions.items) k.none in
    record { in_source = k.in_source; room = k.room; map = k.map; regions = k.regions; apart = all_apart (plan.map ∷ plan.regions.items) k.none; free = λ small. all_free n (overwritten erased plan.map.start flashmap) plan.regions.items small long k.regions parts.1 }

pub plans_laid : (n : ℕ) (names : List (List ℕ)) (source : List ℕ) (plan : Plan) → plan_for n names source ≡ Ok plan → IsSoundPlan n source plan
plans_laid n names source plan is = laid n source plan (planned n names source plan is)
