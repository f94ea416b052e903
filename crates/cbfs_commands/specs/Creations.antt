-- The effect of `create`. This project defines the conditions and the order of the checks.
use Rattle.std.specs.Prelude.{◌≡◌, ℕ, ◌+◌, ◌≤◌, Bool, false, ◌&&◌, ◌||◌, List, [], ◌∷◌}
use Rattle.std.specs.Prelude.{take, map, drop, fold, replicate, nat_lt, Option, Result, Ok, Err, ◌==◌}
use Rattle.std.specs.Prelude.{IsErrOf, ◌⊎◌, if◌then◌else◌}
use Rattle.std.specs.List.{list_any}
use Rattle.std.specs.Option.{ok_or}
use lib.Chars.{codes}
use Rattle.flash_format.specs.declared.flashmap.Area.{Area}
use Rattle.flash_format.specs.declared.flashmap.FmapHead.{FmapHead}
use Rattle.flash_format.specs.Flashmap.{fmap_head_len, map_len, areas_from}
use Rattle.flash_device.specs.Device.{Device, Reads, fault_count, overwritten}
use Rattle.flash_device.specs.Pages.{OnHonest}
use Rattle.flash_map.specs.Fmap.{first_area, map_head}
use Rattle.flash_device.specs.Laws.{with_edit}
use Rattle.flash_device.specs.Regions.{Range}
use Rattle.flash_map.specs.Regions.{region_by_area}
use Rattle.cbfs_walk.specs.Shapes.{has_bad_size}
use Rattle.cbfs_edit.specs.Changes.{formatted}
use Rattle.cbfs_commands.specs.declared.create.plan.Plan.{Plan}
use Rattle.cbfs_requests.specs.declared.refusal.Refusal.{Refusal}
use Rattle.cbfs_requests.specs.declared.refusal.Refusal.TheVariants as refusals
use Rattle.cbfs_requests.specs.Requests.{by_source, fault_or, store_refusal}

-- An answer by the source's content, unless a read fails, after at most n reads.
pub record AnswersBySource {S T : Type 0} (facts : S → Device) (n : ℕ) (source source_now : S)
    (result : Result T Refusal) (tell : List ℕ → Result T Refusal) : Type 0 where
  pub calls : Reads n (fault_count by_source result) (facts source) (facts source_now)
  pub no_other : (IsErrOf result refusals.Device ⊎ IsErrOf result refusals.Output) → ⊥
  pub answer : OnHonest (facts source)
      (λ content. IsErrOf result refusals.Source ⊎ (result ≡ tell content))

-- ---- the places

-- The ranges of all areas in an image of n bytes, or the first error. Each area in order has two
-- checks: it exists inside the image, and its size is valid for a CBFS.
abbrev pub region_places : ℕ → List (Option Area) → Result (List Range) Refusal
region_places n [] = Ok []
region_places n (area ∷ areas) =
    fault_or (λ fault. Err (store_refusal fault)) (region_by_area n area) (λ place.
    if has_bad_size place.size then Err refusals.RegionShape
    else fault_or Err (region_places n areas) (λ places. Ok (place ∷ places)))

abbrev pub share_bytes : Range → Range → Bool
share_bytes a b = nat_lt a.start (b.start + b.size) && nat_lt b.start (a.start + a.size)

abbrev pub some_overlap : List Range → Bool
some_overlap [] = false
some_overlap (place ∷ places) = list_any (share_bytes place) places || some_overlap places

-- ---- the plan: first the header, then the map's area, then each region, then overlaps

-- the head of a map for an image of n bytes, at the source's start
abbrev pub head_for : ℕ → List ℕ → Result FmapHead Refusal
head_for n source = fault_or Err (ok_or (map_head source) refusals.TableBad)
    (λ head. if head.size == n then Ok head else Err refusals.TableBad)

-- the area FMAP, with room for the map
abbrev pub map_place : ℕ → FmapHead → List Area → Result Range Refusal
map_place n head areas = fault_or (λ fault. Err refusals.FmapArea)
    (region_by_area n (first_area areas (codes "FMAP")))
    (λ place. if nat_lt place.size (map_len head) then Err refusals.FmapArea else Ok place)

-- the plan of places without a shared byte
abbrev pub plan_of : FmapHead → Range → List Range → Result Plan Refusal
plan_of head place regions = if some_overlap (place ∷ regions) then Err refusals.FmapArea
    else Ok (record { map = place; map_len = map_len head; regions = record { items = regions } })

-- by the image's size, the names of the regions and the source
unfoldable pub plan_for : ℕ → List (List ℕ) → List ℕ → Result Plan Refusal
plan_for n names source = fault_or Err (head_for n source) (λ head.
    let areas = areas_from head.nareas (drop fmap_head_len source) in
    fault_or Err (map_place n head areas) (λ place.
    fault_or Err (region_places n (map (first_area areas) names)) (plan_of head place)))

-- in an image of n bytes, with a valid size for a CBFS
pub record IsPlace (n : ℕ) (place : Range) : Type 0 where
  pub inside : place.start + place.size ≤ n
  pub size : has_bad_size place.size ≡ false

-- ---- the image

-- 0xff throughout, then the flashmap, then each region as an empty entry, in order
abbrev pub created_image : ℕ → Plan → List ℕ → List ℕ
created_image n plan source = fold (λ image place. with_edit place formatted image)
    (overwritten (replicate n 0xff) plan.map.start (take plan.map_len source)) plan.regions.items
