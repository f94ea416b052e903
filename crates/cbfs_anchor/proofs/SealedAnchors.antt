-- A seal keeps the anchor: its place, its algorithm, and all that its digests are made of.
use Rattle.std.proofs.Common.{◌≡◌, ◌≢◌, ◌⊎◌, inl, inr, ℕ, zero, suc, ◌+◌, ◌-◌, ◌*◌, ◌<◌, ◌≤◌, true, false, Bool, cond, List, ◌∷◌, ◌++◌, length, take, drop, Option, Some, None, Result, Ok, Err, refl, sym, ap, subst, ◌∙◌, arith, le_refl, length-append, length-drop}
use Rattle.std.specs.Prelude.{slice_index, ◌||◌, ◌&&◌, not, nat_lt, ◌==◌, if◌then◌else◌}
use Rattle.std.specs.List.{concat, find}
use Rattle.std.specs.Option.{option_map, option_map_or}
use Rattle.std.specs.Result.{result_map_both}
use Rattle.std.specs.Str.{bytes_eq}
use Rattle.std.proofs.lemmas.Bool.{cases_Bool}
use Rattle.std.proofs.lemmas.Bool.Decides.{nat_tests}
use Rattle.std.proofs.lemmas.Grind.{common_steps}
use Rattle.std.proofs.lemmas.List.{get_or-take, drop-take, drop-drop}
use lib.Chars.{codes}
use Rattle.memchr.specs.Find.{first_of, matches, matches_from, occurs_at}
use Rattle.flash_format.specs.declared.flashmap.Area.{Area}
use Rattle.flash_format.specs.declared.head.Head.{Head}
use Rattle.flash_format.specs.Head.{head_of}
use Rattle.flash_format.specs.Components.{Component}
use Rattle.flash_format.specs.declared.flashmap.FmapHead.{FmapHead}
use Rattle.flash_format.specs.Flashmap.{area_of, areas_from, fmap_head_of, has_signature, is_area, is_map, map_from}
use Rattle.flash_format.proofs.MapBytes.{lowest_found}
use Rattle.flash_format.proofs.MapLaws.{IsMapOf, map_lowest}
use Rattle.flash_format.proofs.Fronts.{area_of-take, fmap_head_of-take, has_signature-take}
use Rattle.flash_device.specs.Device.{overwritten}
use Rattle.flash_device.specs.Regions.{Range, LiesIn, bytes_in}
use Rattle.flash_device.proofs.BytesLemmas.{length-overwritten, nearer, overwritten-earlier, slice_range_is, take-overwritten}
use Rattle.flash_device.proofs.DeviceLemmas.{length-bytes_in}
use Rattle.flash_device.proofs.RegionLemmas.{written_in}
use Rattle.flash_map.specs.Fmap.{areas_of, found_in}
use Rattle.flash_map.specs.Regions.{region_by_area}
use Rattle.flash_map.specs.declared.search.FoundMap.{FoundMap}
use Rattle.flash_map.specs.declared.search.StoreFault.{StoreFault}
use Rattle.cbfs_walk.specs.Search.{component_in}
use Rattle.cbfs_walk.specs.declared.walk.WalkFault.{WalkFault}
use Rattle.cbfs_anchor.specs.declared.anchor.Anchor.{Anchor}
use Rattle.cbfs_anchor.specs.declared.algorithm.Algorithm.{Algorithm}
use Rattle.cbfs_anchor.specs.declared.demand.Demand.{Demand}
use Rattle.cbfs_anchor.specs.declared.demand.Demand.TheVariants as demands
use Rattle.cbfs_anchor.specs.declared.fault.SealFault.{SealFault}
use Rattle.cbfs_anchor.specs.declared.fault.SealFault.TheVariants as faults
use Rattle.cbfs_anchor.specs.declared.place.AnchorPlace.{AnchorPlace}
use Rattle.cbfs_anchor.specs.Algorithms.{algorithm_numbered, digest_by, digest_len}
use Rattle.cbfs_anchor.specs.Faults.{and_then, store_fault, walk_fault}
use Rattle.cbfs_anchor.specs.Layout.{anchor_at, anchor_in, anchor_len, digests_range, elf_magic, has_header, magic, mbn_magic}
use Rattle.cbfs_anchor.specs.Metadata.{metadata_in}
use Rattle.cbfs_anchor.specs.Places.{area_place, area_range, component_place, content_place, content_range, is_misplaced, map_range, place_by, place_in, place_with, share_bytes}
use Rattle.cbfs_anchor.proofs.SealedComponents.{content_inside, its_cell, position, region_component, region_head, region_metadata}
use Rattle.cbfs_anchor.proofs.SealLaws.{kept_beside, length-digest_by}
use Rattle.cbfs_anchor.specs.Seals.{Survey, sealed, survey_at, survey_by, survey_from, survey_in, survey_with}

-- ---- results in a row

then_ok : {T U : Type 0} (r : Result T SealFault) (next : T → Result U SealFault) (u : U) → and_then r next ≡ Ok u → (t : T) × (r ≡ Ok t) × (next t ≡ Ok u)
then_ok (Ok t) next u is = (t, refl, is)
then_ok (Err fault) next u is = absurd cc

-- ---- the first magic

-- the first occurrence, of n positions from i on
abbrev first_from : List ℕ → ℕ → ℕ → Option ℕ
first_from x i n = first_of (matches_from x magic 0 i n)

not_before : (x : List ℕ) (p i n : ℕ) → first_from x i n ≡ Some p → i ≤ p
unfolding first_of matches_from
not_before x p i zero is = absurd cc
not_before x p i (suc n) is = let more = not_before x p (i + 1) n in grind (arith, common_steps)

module _ (x y : List ℕ) (p : ℕ) (same : (k : ℕ) → k ≤ p → occurs_at y magic k ≡ occurs_at x magic k) where
  by_first : (i n : ℕ) (b : Bool) → occurs_at x magic i ≡ b → (first_from x (i + 1) n ≡ Some p → first_from y (i + 1) n ≡ Some p)
      → first_of (cond b (i ∷ matches_from x magic 7 (i + 1) n) (matches_from x magic 0 (i + 1) n)) ≡ Some p
      → first_of (cond (occurs_at y magic i) (i ∷ matches_from y magic 7 (i + 1) n) (matches_from y magic 0 (i + 1) n)) ≡ Some p
  unfolding first_of
  by_first i n true here more is = let low : i ≤ p = omega (arith, (let e : i ≡ p = cc in e)) in rw (same i low ∙ here) is
  by_first i n false here more is = let low : i ≤ p = omega (arith, not_before x p (i + 1) n is) in rw (same i low ∙ here) (more is)

  first_same : (i n : ℕ) → first_from x i n ≡ Some p → first_from y i n ≡ Some p
  unfolding matches_from
  first_same i zero is = is
  first_same i (suc n) is = by_first i n (occurs_at x magic i) refl (first_same (i + 1) n) is

-- ---- an anchor whose digests are overwritten

-- the position of the anchor in the bytes
anchor_position : (start : ℕ) (x : List ℕ) (a : Anchor) → anchor_in start x ≡ Ok a
    → (p : ℕ) × (first_of (matches x magic 0) ≡ Some p) × (anchor_at start x p ≡ Ok a)
unfolding anchor_in
anchor_position start x a is = go (first_of (matches x magic 0)) refl is
  where
    go : (o : Option ℕ) → first_of (matches x magic 0) ≡ o → option_map_or (anchor_at start x) o (Err faults.NoAnchor) ≡ Ok a
        → (p : ℕ) × (first_of (matches x magic 0) ≡ Some p) × (anchor_at start x p ≡ Ok a)
    go None none found = absurd cc
    go (Some p) here found = (p, here, found)

record IsPlaced (start : ℕ) (x : List ℕ) (a : Anchor) (p : ℕ) : Type 0 where
  pub at : a.at ≡ start + p
  pub inside : p + anchor_len a.algorithm ≤ length x

anchor_placed : (start : ℕ) (x : List ℕ) (a : Anchor) (p : ℕ) → anchor_at start x p ≡ Ok a → IsPlaced start x a p
anchor_placed start x a p is = grind (arith, common_steps, nat_tests)

module _ (start : ℕ) (x u : List ℕ) (a : Anchor) (anchored : anchor_in start x ≡ Ok a) (q : ℕ) (place : start + q ≡ a.at + 12) (fits : q + length u ≤ length x) where
  abbrev y : List ℕ
  y = overwritten x q u

  found : (p : ℕ) × (first_of (matches x magic 0) ≡ Some p) × (anchor_at start x p ≡ Ok a)
  found = anchor_position start x a anchored

  q_is : q ≡ found.0 + 12
  q_is = omega (arith, place, (anchor_placed start x a found.0 found.2).at)

  length_y : length y ≡ length x
  length_y = length-overwritten x q u fits

  within : q ≤ length x
  within = omega (arith, fits)

  occurs_same : (k : ℕ) → k ≤ found.0 → occurs_at y magic k ≡ occurs_at x magic k
  occurs_same k low =
      let bytes : take 8 (drop k y) ≡ take 8 (drop k x) = sym (slice_range_is y k 8) ∙ overwritten-earlier x q u k 8 (omega (arith, low, q_is)) within ∙ slice_range_is x k 8 in
      rw (length_y, bytes) refl

  number_same : slice_index y (found.0 + 11) ≡ slice_index x (found.0 + 11)
  number_same =
      let below : found.0 + 11 < q = omega (arith, q_is) in
      sym (get_or-take q y (found.0 + 11) 0 below) ∙ ap (λ l. slice_index l (found.0 + 11)) (take-overwritten x q u q (le_refl q) within) ∙ get_or-take q x (found.0 + 11) 0 below

  abbrev by_number : ℕ → ℕ → Result Anchor SealFault
  by_number n number = if nat_lt n (found.0 + 12) then Err faults.CutOff
      else option_map_or (λ (b : Algorithm). if nat_lt n (found.0 + anchor_len b) then Err faults.CutOff else Ok (record { at = start + found.0; algorithm = b }))
      (algorithm_numbered number) (Err faults.UnknownAlgorithm)

  pub anchor_kept : anchor_in start y ≡ Ok a
  unfolding anchor_in
  anchor_kept =
      let first : first_of (matches y magic 0) ≡ Some found.0 = rw length_y (first_same x y found.0 occurs_same 0 (length x + 1 - 0) found.1) in
      let at : anchor_at start y found.0 ≡ anchor_at start x found.0 = ap (λ n. by_number n (slice_index y (found.0 + 11))) length_y ∙ ap (by_number (length x)) number_same in
      ap (λ o. option_map_or (anchor_at start y) o (Err faults.NoAnchor)) first ∙ at ∙ found.2

  pub header_kept : has_header y ≡ has_header x
  header_kept =
      let front : take 4 y ≡ take 4 x = take-overwritten x q u 4 (omega (arith, q_is)) within in
      ap (λ (l : List ℕ). bytes_eq elf_magic l || bytes_eq mbn_magic l) front

-- ---- the areas of the map

areas_same : (n : ℕ) (x y : List ℕ) → take (42 * n) y ≡ take (42 * n) x → areas_from n y ≡ areas_from n x
unfolding areas_from
areas_same zero x y same = refl
areas_same (suc n) x y same =
    let size : 42 * suc n ≡ 42 + 42 * n = omega arith in
    let front : take (42 + 42 * n) y ≡ take (42 + 42 * n) x = rw size at same in
    let area : area_of y ≡ area_of x = sym (area_of-take y (42 + 42 * n) (omega arith)) ∙ ap (λ (l : List ℕ). area_of l) front ∙ area_of-take x (42 + 42 * n) (omega arith) in
    let rest : take (42 * n) (drop 42 y) ≡ take (42 * n) (drop 42 x) = sym (drop-take 42 (42 * n) y) ∙ ap (drop 42) front ∙ drop-take 42 (42 * n) x in
    rw (area, areas_same n (drop 42 x) (drop 42 y) rest) refl

-- the areas, if the bytes of the map are the same
areas_kept : (image y : List ℕ) (map : FoundMap) → bytes_in (map_range map) y ≡ bytes_in (map_range map) image → areas_of y map ≡ areas_of image map
areas_kept image y map same =
    let n = map.head.nareas in
    let front : take (56 + 42 * n) (drop map.at y) ≡ take (56 + 42 * n) (drop map.at image) = sym (slice_range_is y map.at (56 + 42 * n)) ∙ same ∙ slice_range_is image map.at (56 + 42 * n) in
    let rest : take (42 * n) (drop 56 (drop map.at y)) ≡ take (42 * n) (drop 56 (drop map.at image)) =
    sym (drop-take 56 (42 * n) (drop map.at y)) ∙ ap (drop 56) front ∙ drop-take 56 (42 * n) (drop map.at image) in
    let all : areas_from n (drop 56 (drop map.at y)) ≡ areas_from n (drop 56 (drop map.at image)) = areas_same n (drop 56 (drop map.at image)) (drop 56 (drop map.at y)) rest in
    rw (drop-drop 56 map.at y, drop-drop 56 map.at image) at all

-- ---- the place

-- after COREBOOT is found, by the length of the image, the areas, and the bytes of COREBOOT
abbrev placed_by : ℕ → List Area → FoundMap → Range → List ℕ → Result AnchorPlace SealFault
placed_by n areas map coreboot x = option_map_or
    (λ (area : Area). result_map_both (area_place (map_range map) coreboot) store_fault (region_by_area n (Some area)))
    (find (is_area (codes "BOOTBLOCK")) areas) (component_place (map_range map) coreboot x)

in_component : (map coreboot : Range) (x : List ℕ) (place : AnchorPlace) → component_place map coreboot x ≡ Ok place → place.in_component ≡ true
in_component map coreboot x place is = grind (arith, common_steps)

place_same : (n : ℕ) (areas : List Area) (map : FoundMap) (coreboot : Range) (x y : List ℕ) (place : AnchorPlace) → placed_by n areas map coreboot x ≡ Ok place
    → (place.in_component ≡ false) ⊎ (component_place (map_range map) coreboot y ≡ component_place (map_range map) coreboot x) → placed_by n areas map coreboot y ≡ Ok place
place_same n areas map coreboot x y place is kept = go (find (is_area (codes "BOOTBLOCK")) areas) is kept
  where
    by : Option Area → List ℕ → Result AnchorPlace SealFault
    by o z = option_map_or (λ (area : Area). result_map_both (area_place (map_range map) coreboot) store_fault (region_by_area n (Some area))) o (component_place (map_range map) coreboot z)

    go : (o : Option Area) → by o x ≡ Ok place → (place.in_component ≡ false) ⊎ (component_place (map_range map) coreboot y ≡ component_place (map_range map) coreboot x) → by o y ≡ Ok place
    go (Some area) found kept = found
    go None found (inl outside) = let inside = in_component (map_range map) coreboot x place found in absurd cc
    go None found (inr same) = same ∙ found

-- the ranges of a place, and an area's range inside the image
record HasRanges (n : ℕ) (map : FoundMap) (coreboot : Range) (place : AnchorPlace) : Type 0 where
  pub map_is : place.map ≡ map_range map
  pub coreboot_is : place.coreboot ≡ coreboot
  pub inside : place.in_component ≡ false → place.anchor.start + place.anchor.size ≤ n

ranges_are : (n : ℕ) (areas : List Area) (map : FoundMap) (coreboot : Range) (x : List ℕ) (place : AnchorPlace) → placed_by n areas map coreboot x ≡ Ok place → HasRanges n map coreboot place
ranges_are n areas map coreboot x place is = grind (arith, common_steps, nat_tests)

-- ---- the survey

first_false : (a b : Bool) → (a || b) ≡ false → a ≡ false
first_false false b is = refl
first_false true b is = absurd cc

second_false : (a b c : Bool) → (a || (not b && c)) ≡ false → b ≡ false → c ≡ false
second_false a b false is outside = refl
second_false a true true is outside = absurd cc
second_false true false true is outside = absurd cc
second_false false false true is outside = absurd cc

apart_of_map : (place : AnchorPlace) (digests : Range) → is_misplaced place digests ≡ false → share_bytes digests place.map ≡ false
apart_of_map place digests apart = first_false (share_bytes digests place.map) _ apart

apart_of_coreboot : (place : AnchorPlace) (digests : Range) → is_misplaced place digests ≡ false → place.in_component ≡ false → share_bytes digests place.coreboot ≡ false
apart_of_coreboot place digests apart outside = second_false (share_bytes digests place.map) place.in_component _ apart outside

survey_same : (demand : Demand) (image y : List ℕ) (place : AnchorPlace) (a : Anchor) → has_header (bytes_in place.anchor y) ≡ has_header (bytes_in place.anchor image)
    → metadata_in demand a.algorithm (bytes_in place.coreboot y) ≡ metadata_in demand a.algorithm (bytes_in place.coreboot image)
    → bytes_in place.map y ≡ bytes_in place.map image → survey_at demand y place a ≡ survey_at demand image place a
survey_same demands.Nothing image y place a header metadata map = rw (metadata, map) refl
survey_same demands.Found image y place a header metadata map = rw (header, metadata, map) refl
survey_same demands.Loaded image y place a header metadata map = rw (header, metadata, map) refl

record IsWritable (demand : Demand) (image : List ℕ) (place : AnchorPlace) (a : Anchor) (s : Survey) : Type 0 where
  pub apart : is_misplaced place (digests_range a) ≡ false
  pub message : List ℕ
  pub survey : s ≡ survey_by a message (bytes_in place.map image)

by_fault : (place : AnchorPlace) (a : Anchor) (s : Survey) (bytes : List ℕ) (b header : Bool) (r : Result (List ℕ) SealFault)
    → option_map_or (λ fault. Err fault) (cond b (Some faults.Misplaced) (cond header (Some faults.OwnDigest) None)) (and_then r (λ message. Ok (survey_by a message bytes))) ≡ Ok s
    → (b ≡ false) × (message : List ℕ) × (s ≡ survey_by a message bytes)
by_fault place a s bytes true header r is = absurd cc
by_fault place a s bytes false true r is = absurd cc
by_fault place a s bytes false false (Err fault) is = absurd cc
by_fault place a s bytes false false (Ok message) is = (refl, message, let e : survey_by a message bytes ≡ s = cc in sym e)

of_parts : (demand : Demand) (image : List ℕ) (place : AnchorPlace) (a : Anchor) (s : Survey) → (is_misplaced place (digests_range a) ≡ false) × (message : List ℕ) × (s ≡ survey_by a message (bytes_in place.map image))
    → IsWritable demand image place a s
of_parts demand image place a s parts = record { apart = parts.0; message = parts.1; survey = parts.2 }

writable : (demand : Demand) (image : List ℕ) (place : AnchorPlace) (a : Anchor) (s : Survey) → demand ≢ demands.Nothing → survey_at demand image place a ≡ Ok s → IsWritable demand image place a s
writable demands.Nothing image place a s some is = absurd (some refl)
writable demands.Found image place a s some is =
    of_parts demands.Found image place a s (by_fault place a s (bytes_in place.map image) (is_misplaced place (digests_range a)) (has_header (bytes_in place.anchor image)) (metadata_in demands.Found a.algorithm (bytes_in place.coreboot image)) is)
writable demands.Loaded image place a s some is =
    of_parts demands.Loaded image place a s (by_fault place a s (bytes_in place.map image) (is_misplaced place (digests_range a)) (has_header (bytes_in place.anchor image)) (metadata_in demands.Loaded a.algorithm (bytes_in place.coreboot image)) is)

-- ---- COREBOOT, if its component has the anchor

area_inside : (image : List ℕ) (map : FoundMap) (name : List ℕ) (r : Range) → area_range image map name ≡ Ok r → LiesIn r image
area_inside image map name r is = region_inside (length image) (find (is_area name) (areas_of image map)) r is
  where
    region_inside : (n : ℕ) (area : Option Area) (r : Range) → result_map_both (λ range. range) store_fault (region_by_area n area) ≡ Ok r → r.start + r.size ≤ n
    region_inside n area r is = grind (arith, common_steps, nat_tests)

area_outside : (map coreboot : Range) (place : AnchorPlace) (r : Result Range StoreFault) → result_map_both (area_place map coreboot) store_fault r ≡ Ok place → place.in_component ≡ false
area_outside map coreboot place (Ok range) is = let e : area_place map coreboot range ≡ place = cc in ap (λ (p : AnchorPlace). p.in_component) (sym e)
area_outside map coreboot place (Err fault) is = absurd cc

component_placed : (n : ℕ) (areas : List Area) (map : FoundMap) (coreboot : Range) (x : List ℕ) (place : AnchorPlace) → placed_by n areas map coreboot x ≡ Ok place → place.in_component ≡ true
    → component_place (map_range map) coreboot x ≡ Ok place
component_placed n areas map coreboot x place is inside = go (find (is_area (codes "BOOTBLOCK")) areas) is
  where
    go : (o : Option Area) → option_map_or (λ (area : Area). result_map_both (area_place (map_range map) coreboot) store_fault (region_by_area n (Some area))) o (component_place (map_range map) coreboot x) ≡ Ok place
        → component_place (map_range map) coreboot x ≡ Ok place
    go (Some area) found = let outside = area_outside (map_range map) coreboot place (region_by_area n (Some area)) found in absurd cc
    go None found = found

found_place : (map coreboot : Range) (found : Result (Option Component) WalkFault) (place : AnchorPlace)
    → and_then (result_map_both (λ c. c) walk_fault found) (λ c. option_map_or (content_place map coreboot) c (Err faults.NoAnchor)) ≡ Ok place
    → (f : Component) × (found ≡ Ok (Some f)) × (place.anchor ≡ content_range coreboot f)
found_place map coreboot (Err fault) place is = absurd cc
found_place map coreboot (Ok None) place is = absurd cc
found_place map coreboot (Ok (Some f)) place is = (f, refl, grind (arith, common_steps))

-- ---- the search for the map

is_map-alike : (x y : List ℕ) → length y ≡ length x → take 56 y ≡ take 56 x → is_map y ≡ is_map x
unfolding is_map
is_map-alike x y len same =
    let signature : has_signature y ≡ has_signature x = sym (has_signature-take y 56 (omega arith)) ∙ ap (λ (l : List ℕ). has_signature l) same ∙ has_signature-take x 56 (omega arith) in
    let head : fmap_head_of y ≡ fmap_head_of x = sym (fmap_head_of-take y 56 (omega arith)) ∙ ap (λ (l : List ℕ). fmap_head_of l) same ∙ fmap_head_of-take x 56 (omega arith) in
    rw (len, signature, head) refl

front_later : (x y : List ℕ) (n k : ℕ) → take n y ≡ take n x → k + 56 ≤ n → take 56 (drop k y) ≡ take 56 (drop k x)
front_later x y n k same fits = sym (drop-take k 56 y) ∙ ap (drop k) (nearer x y (k + 56) n fits same) ∙ drop-take k 56 x

found_still : (image now : List ℕ) (map : FoundMap) (n : ℕ) → found_in image ≡ Some map → length now ≡ length image → take n now ≡ take n image → map.at + 56 ≤ n → found_in now ≡ Some map
found_still image now map n found len same fits = go (map_from 0 image) refl (map_lowest image) found
  where
    map_at : ℕ → List ℕ → FoundMap
    map_at q x = record { at = q; head = fmap_head_of (drop q x) }

    alike : (k : ℕ) → k ≤ map.at → is_map (drop k now) ≡ is_map (drop k image)
    alike k low = is_map-alike (drop k image) (drop k now) (length-drop k now ∙ ap (λ m. m - k) len ∙ sym (length-drop k image)) (front_later image now n k same (omega (arith, low, fits)))

    go : (o : Option ℕ) → map_from 0 image ≡ o → IsMapOf image o → option_map (λ q. map_at q image) o ≡ Some map → found_in now ≡ Some map
    go None here known is = absurd cc
    go (Some q) here known is =
        let found_map : map_at q image ≡ map = cc in
        let at : q ≡ map.at = ap (λ (m : FoundMap). m.at) found_map in
        let lowest : map_from 0 now ≡ Some q = lowest_found now q (alike q (omega (arith, at)) ∙ known.0) (λ k below is_one. known.1 k below (sym (alike k (omega (arith, at, below))) ∙ is_one)) in
        let head : fmap_head_of (drop q now) ≡ fmap_head_of (drop q image) =
        sym (fmap_head_of-take (drop q now) 56 (omega arith)) ∙ ap (λ (l : List ℕ). fmap_head_of l) (front_later image now n q same (omega (arith, at, fits))) ∙ fmap_head_of-take (drop q image) 56 (omega arith) in
        ap (λ (o : Option ℕ). option_map (λ k. map_at k now) o) lowest ∙ ap (λ (h : FmapHead). Some (let m : FoundMap = record { at = q; head = h } in m)) head ∙ is

beside : (r t : Range) → share_bytes r t ≡ false → (r.start + r.size ≤ t.start) ⊎ (t.start + t.size ≤ r.start)
beside r t apart = grind (arith, nat_tests)

-- ---- a sealed image

length-digests : (a : Algorithm) (message map : List ℕ) → length (digest_by a message ++ digest_by a map) ≡ 2 * digest_len a
length-digests a message map = omega (arith, length-append (digest_by a message) (digest_by a map), length-digest_by a message, length-digest_by a map)

module _ (demand : Demand) (image : List ℕ) (map : FoundMap) (coreboot : Range) (place : AnchorPlace) (a : Anchor) (message : List ℕ)
    (there : area_range image map (codes "COREBOOT") ≡ Ok coreboot) (placed : place_by image map coreboot ≡ Ok place)
    (anchored : anchor_in place.anchor.start (bytes_in place.anchor image) ≡ Ok a) (apart : is_misplaced place (digests_range a) ≡ false)
    (inside : LiesIn place.anchor image) where
  abbrev s : Survey
  s = survey_by a message (bytes_in place.map image)

  abbrev u : List ℕ
  u = digest_by a.algorithm message ++ digest_by a.algorithm (bytes_in place.map image)

  abbrev now : List ℕ
  now = sealed s image

  abbrev bytes : List ℕ
  bytes = bytes_in place.anchor image

  length_u : length u ≡ 2 * digest_len a.algorithm
  length_u = length-digests a.algorithm message (bytes_in place.map image)

  place_of_anchor : (p : ℕ) × (first_of (matches bytes magic 0) ≡ Some p) × (anchor_at place.anchor.start bytes p ≡ Ok a)
  place_of_anchor = anchor_position place.anchor.start bytes a anchored

  its : IsPlaced place.anchor.start bytes a place_of_anchor.0
  its = anchor_placed place.anchor.start bytes a place_of_anchor.0 place_of_anchor.2

  length_range : length bytes ≡ place.anchor.size
  length_range = length-bytes_in place.anchor image inside

  fits : place_of_anchor.0 + 12 + length u ≤ length bytes
  fits = omega (arith, its.inside, length_u)

  digests_lie : LiesIn (digests_range a) image
  digests_lie = omega (arith, its.at, its.inside, length_range, inside)

  length_now : length now ≡ length image
  length_now = length-overwritten image (a.at + 12) u (omega (arith, digests_lie, length_u))

  -- the bytes of the anchor's range
  over : bytes_in place.anchor now ≡ overwritten bytes (place_of_anchor.0 + 12) u
  over =
      let at : a.at + 12 ≡ place.anchor.start + (place_of_anchor.0 + 12) = omega (arith, its.at) in
      ap (λ k. bytes_in place.anchor (overwritten image k u)) at ∙ written_in place.anchor image (place_of_anchor.0 + 12) u inside (omega (arith, fits, length_range))

  same_anchor : anchor_in place.anchor.start (bytes_in place.anchor now) ≡ Ok a
  same_anchor = rw over (anchor_kept place.anchor.start bytes u a anchored (place_of_anchor.0 + 12) (omega (arith, its.at)) fits)

  same_header : has_header (bytes_in place.anchor now) ≡ has_header bytes
  same_header = rw over (header_kept place.anchor.start bytes u a anchored (place_of_anchor.0 + 12) (omega (arith, its.at)) fits)

  ranges : HasRanges (length image) map coreboot place
  ranges = ranges_are (length image) (areas_of image map) map coreboot (bytes_in coreboot image) place placed

  same_map : bytes_in place.map now ≡ bytes_in place.map image
  same_map = kept_beside a message (bytes_in place.map image) image digests_lie place.map (apart_of_map place (digests_range a) apart)

  same_areas : areas_of now map ≡ areas_of image map
  same_areas = areas_kept image now map (subst (λ (r : Range). bytes_in r now ≡ bytes_in r image) ranges.map_is same_map)

  same_coreboot : place.in_component ≡ false → bytes_in coreboot now ≡ bytes_in coreboot image
  same_coreboot outside = rw ranges.coreboot_is at (kept_beside a message (bytes_in place.map image) image digests_lie place.coreboot (apart_of_coreboot place (digests_range a) apart outside))

  -- a search finds the same map, if it begins before the anchor
  map_now : found_in image ≡ Some map → map.at < a.at → found_in now ≡ Some map
  map_now found lower = found_still image now map (a.at + 12) found length_now (take-overwritten image (a.at + 12) u (a.at + 12) (le_refl (a.at + 12)) (omega (arith, digests_lie)))
      (elim (beside (digests_range a) (map_range map) (subst (λ (r : Range). share_bytes (digests_range a) r ≡ false) ranges.map_is (apart_of_map place (digests_range a) apart))) [
        | inl below ↦ absurd (omega (arith, below, lower))
        | inr above ↦ omega (arith, above)
      ])

  -- all that the digests are made of is the same
  module _ (components : (place.in_component ≡ false) ⊎ ((component_place (map_range map) coreboot (bytes_in coreboot now) ≡ component_place (map_range map) coreboot (bytes_in coreboot image))
      × (metadata_in demand a.algorithm (bytes_in coreboot now) ≡ metadata_in demand a.algorithm (bytes_in coreboot image)))) where
    same_place : place_with now map ≡ Ok place
    same_place =
        let range : area_range now map (codes "COREBOOT") ≡ Ok coreboot = rw (length_now, same_areas) there in
        let by : placed_by (length image) (areas_of image map) map coreboot (bytes_in coreboot now) ≡ Ok place =
        place_same (length image) (areas_of image map) map coreboot (bytes_in coreboot image) (bytes_in coreboot now) place placed (elim components [
          | inl outside ↦ inl outside
          | inr same ↦ inr same.0
        ]) in
        let all : place_by now map coreboot ≡ Ok place = rw (length_now, same_areas) by in
        ap (λ (r : Result Range SealFault). and_then r (place_by now map)) range ∙ all

    same_metadata : metadata_in demand a.algorithm (bytes_in place.coreboot now) ≡ metadata_in demand a.algorithm (bytes_in place.coreboot image)
    same_metadata = rw ranges.coreboot_is (elim components [
      | inl outside ↦ ap (metadata_in demand a.algorithm) (same_coreboot outside)
      | inr same ↦ same.1
    ])

    pub same_survey : survey_at demand image place a ≡ Ok s → survey_with demand now map ≡ Ok s
    unfolding survey_with
    same_survey surveyed =
        ap (λ (r : Result AnchorPlace SealFault). and_then r (survey_from demand now)) same_place
        ∙ ap (λ (r : Result Anchor SealFault). and_then r (survey_at demand now place)) same_anchor
        ∙ survey_same demand image now place a same_header same_metadata same_map
        ∙ surveyed

  -- COREBOOT, if its component has the anchor
  module _ (lies : LiesIn coreboot image) (f : Component) (found : component_in (bytes_in coreboot image) (codes "bootblock") ≡ Ok (Some f)) (content : place.anchor ≡ content_range coreboot f) where
    abbrev region : List ℕ
    region = bytes_in coreboot image

    abbrev c : List ℕ
    c = (its_cell region (codes "bootblock") f found).bytes

    abbrev p : ℕ
    p = length (concat (its_cell region (codes "bootblock") f found).before)

    content_is : place.anchor ≡ record { start = coreboot.start + p + (head_of c).offset; size = (head_of c).len }
    content_is = content ∙ ap (λ (g : Component). content_range coreboot g) (position region (codes "bootblock") f found)

    -- the position of the digests in the cell
    abbrev k : ℕ
    k = (head_of c).offset + (place_of_anchor.0 + 12)

    low : (head_of c).offset ≤ k
    low = omega arith

    high : k + length u ≤ length c
    high = omega (arith, fits, length_range, ap (λ (r : Range). r.size) content_is, (content_inside region (codes "bootblock") f found).1)

    over_region : bytes_in coreboot now ≡ overwritten region (p + k) u
    over_region =
        let at : a.at + 12 ≡ coreboot.start + (p + k) = omega (arith, its.at, ap (λ (r : Range). r.start) content_is) in
        ap (λ n. bytes_in coreboot (overwritten image n u)) at
        ∙ written_in coreboot image (p + k) u lies (omega (arith, high, (content_inside region (codes "bootblock") f found).2, length-bytes_in coreboot image lies))

    component_metadata_kept : metadata_in demand a.algorithm (bytes_in coreboot now) ≡ metadata_in demand a.algorithm region
    component_metadata_kept = ap (metadata_in demand a.algorithm) over_region ∙ region_metadata region (codes "bootblock") f found k u low high demand a.algorithm

    by_component : Result (Option Component) WalkFault → Result AnchorPlace SealFault
    by_component r = and_then (result_map_both (λ g. g) walk_fault r) (λ g. option_map_or (content_place (map_range map) coreboot) g (Err faults.NoAnchor))

    component_place_kept : component_place (map_range map) coreboot (bytes_in coreboot now) ≡ component_place (map_range map) coreboot region
    unfolding by_component
    component_place_kept =
        ap (component_place (map_range map) coreboot) over_region
        ∙ ap by_component (region_component region (codes "bootblock") f found k u low high)
        ∙ ap (λ (h : Head). (if h.kind == 1 then Ok (let it : AnchorPlace = record { map = map_range map; coreboot = coreboot; anchor = record { start = coreboot.start + p + h.offset; size = h.len }; in_component = true } in it)
        else Err faults.NoAnchor)) (region_head region (codes "bootblock") f found k u low high)
        ∙ ap (λ (g : Component). content_place (map_range map) coreboot g) (sym (position region (codes "bootblock") f found))
        ∙ ap by_component (sym found)

    pub same_survey_of_component : survey_at demand image place a ≡ Ok s → survey_with demand now map ≡ Ok s
    same_survey_of_component surveyed = same_survey (inr (component_place_kept, component_metadata_kept)) surveyed

-- ---- the law

module _ (demand : Demand) (image : List ℕ) (map : FoundMap) (coreboot : Range) (place : AnchorPlace) (a : Anchor) (message : List ℕ)
    (there : area_range image map (codes "COREBOOT") ≡ Ok coreboot) (placed : place_by image map coreboot ≡ Ok place)
    (anchored : anchor_in place.anchor.start (bytes_in place.anchor image) ≡ Ok a) (apart : is_misplaced place (digests_range a) ≡ false) where
  abbrev t : Survey
  t = survey_by a message (bytes_in place.map image)

  coreboot_bytes : List ℕ
  coreboot_bytes = bytes_in coreboot image

  lies : LiesIn coreboot image
  lies = area_inside image map (codes "COREBOOT") coreboot there

  -- the component `bootblock`, if its content has the anchor
  content_found : place.in_component ≡ true → (f : Component) × (component_in coreboot_bytes (codes "bootblock") ≡ Ok (Some f)) × (place.anchor ≡ content_range coreboot f)
  unfolding coreboot_bytes
  content_found own =
      let by = component_placed (length image) (areas_of image map) map coreboot coreboot_bytes place placed own in
      found_place (map_range map) coreboot (component_in coreboot_bytes (codes "bootblock")) place by

  inside : LiesIn place.anchor image
  unfolding coreboot_bytes
  inside = elim (cases_Bool place.in_component) [
    | inl own ↦
        let found = content_found own in
        let range = found.2 ∙ ap (λ (g : Component). content_range coreboot g) (position coreboot_bytes (codes "bootblock") found.0 found.1) in
        let content = content_inside coreboot_bytes (codes "bootblock") found.0 found.1 in
        omega (arith, lies, content.1, content.2, length-bytes_in coreboot image lies, ap (λ (r : Range). r.start) range, ap (λ (r : Range). r.size) range)
    | inr outside ↦ (ranges_are (length image) (areas_of image map) map coreboot coreboot_bytes place placed).inside outside
  ]

  pub kept_by_map : survey_at demand image place a ≡ Ok t → survey_with demand (sealed t image) map ≡ Ok t
  unfolding coreboot_bytes
  kept_by_map surveyed = elim (cases_Bool place.in_component) [
    | inl own ↦
        let found = content_found own in
        same_survey_of_component demand image map coreboot place a message there placed anchored apart inside lies found.0 found.1 found.2 surveyed
    | inr outside ↦ same_survey demand image map coreboot place a message there placed anchored apart inside (inl outside) surveyed
  ]

  pub kept_map : found_in image ≡ Some map → map.at < a.at → found_in (sealed t image) ≡ Some map
  kept_map = map_now demand image map coreboot place a message there placed anchored apart inside

place_of : (demand : Demand) (image : List ℕ) (map : FoundMap) (s : Survey) → survey_with demand image map ≡ Ok s → (place : AnchorPlace) × (place_with image map ≡ Ok place) × (survey_from demand image place ≡ Ok s)
unfolding survey_with
place_of demand image map s is = then_ok (place_with image map) (survey_from demand image) s is

module _ (demand : Demand) (image : List ℕ) (map : FoundMap) (s : Survey) (some : demand ≢ demands.Nothing) (known : survey_with demand image map ≡ Ok s) where
  Both : Survey → Type 0
  Both r = (survey_with demand (sealed r image) map ≡ Ok r) × (found_in image ≡ Some map → map.at < r.anchor.at → found_in (sealed r image) ≡ Some map)

  both : Both s
  unfolding Both
  both =
      let at = place_of demand image map s known in
      let by = then_ok (area_range image map (codes "COREBOOT")) (place_by image map) at.0 at.1 in
      let anchor = then_ok (anchor_in at.0.anchor.start (bytes_in at.0.anchor image)) (survey_at demand image at.0) s at.2 in
      let w = writable demand image at.0 anchor.0 s some anchor.2 in
      let surveyed = subst (λ (r : Survey). survey_at demand image at.0 anchor.0 ≡ Ok r) w.survey anchor.2 in
      subst Both (sym w.survey) (
        kept_by_map demand image map by.0 at.0 anchor.0 w.message by.1 by.2 anchor.1 w.apart surveyed,
        kept_map demand image map by.0 at.0 anchor.0 w.message by.1 by.2 anchor.1 w.apart,
      )

  pub survey_kept : survey_with demand (sealed s image) map ≡ Ok s
  unfolding Both
  survey_kept = both.0

  pub map_kept : found_in image ≡ Some map → map.at < s.anchor.at → found_in (sealed s image) ≡ Some map
  unfolding Both
  map_kept = both.1

-- by the first map
first_is : (demand : Demand) (image : List ℕ) (map : FoundMap) → found_in image ≡ Some map → survey_in demand image ≡ survey_with demand image map
unfolding survey_in survey_with place_in
first_is demand image map found = ap (λ (o : Option FoundMap). and_then (option_map_or (place_with image) o (Err faults.NoFmap)) (survey_from demand image)) found

pub first_kept : (demand : Demand) (image : List ℕ) (map : FoundMap) (s : Survey) → demand ≢ demands.Nothing → found_in image ≡ Some map → map.at < s.anchor.at → survey_in demand image ≡ Ok s → survey_in demand (sealed s image) ≡ Ok s
first_kept demand image map s some found lower known =
    let with_map : survey_with demand image map ≡ Ok s = sym (first_is demand image map found) ∙ known in
    first_is demand (sealed s image) map (map_kept demand image map s some with_map found lower) ∙ survey_kept demand image map s some with_map
