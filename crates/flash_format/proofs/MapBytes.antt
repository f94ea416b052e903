-- A written map decodes, and is the image's map if no lower map exists.
use Rattle.std.proofs.Common.{◌≡◌, ℕ, ◌*◌, ◌^◌, ◌<◌, ◌≤◌, true, List, [], ◌∷◌, ◌++◌, All, length, take, drop, Option, Some, None, refl, sym, ◌∙◌, ap, arith, append_assoc, length-append, length-drop, ⊎_elim, ◌&&◌}
use Rattle.std.specs.Prelude.{nat_le}
use Rattle.std.specs.List.{flat_map}
use Rattle.std.proofs.lemmas.Bool.{cases_lt, eq-eqb, le-leb, leb-true, and_parts}
use Rattle.std.proofs.lemmas.List.{take_at, drop_at, length-take}
use Rattle.std.proofs.lemmas.List.Elements.{All-head, All-tail, All-weaker}
use Rattle.byteorder.specs.Endian.{little_bytes}
use Rattle.flash_format.specs.declared.flashmap.Area.{Area}
use Rattle.flash_format.specs.declared.flashmap.FmapHead.{FmapHead}
use Rattle.flash_format.specs.Flashmap.{area_bytes, area_of, areas_from, fmap_head_bytes, fmap_head_of, has_signature, is_map, is_map_name, is_valid_head, map_len, map_from}
use Rattle.flash_format.specs.Laws.{IsReadAsMap, NoMapBelow}
use Rattle.flash_format.proofs.Fronts.{area_of-take, fmap_head_of-take, has_signature-take}
use Rattle.flash_format.proofs.MapLaws.{IsMapOf, map_lowest}
use Rattle.flash_format.proofs.MapSteps.{map_where}
use Rattle.flash_format.proofs.FieldWrites.{area_is_read_back, fmap_head_is_read_back, signature_is_written}

-- ---- the lowest map

map_long : (x : List ℕ) → is_map x ≡ true → 56 ≤ length x
unfolding is_map
map_long x is = leb-true 56 (length x) (and_parts (nat_le 56 (length x)) (has_signature x && is_valid_head (fmap_head_of x) (length x)) is).0

one_place : (p q : ℕ) → (p < q → ⊥) → (q < p → ⊥) → p ≡ q
one_place p q above below = ⊎_elim (λ lower. absurd (above lower)) (λ high. ⊎_elim (λ higher. absurd (below higher)) (λ low. omega (arith, high, low)) (cases_lt q p)) (cases_lt p q)

pub lowest_found : (image : List ℕ) (q : ℕ) → is_map (drop q image) ≡ true → NoMapBelow image q → map_from 0 image ≡ Some q
lowest_found image q here none = go (map_from 0 image) refl (map_lowest image)
  where
    inside : q < length image
    inside = omega (arith, map_long (drop q image) here, length-drop q image)

    go : (o : Option ℕ) → map_from 0 image ≡ o → IsMapOf image o → map_from 0 image ≡ Some q
    go None e nowhere = absurd (nowhere q inside here)
    go (Some p) e known = e ∙ ap (λ n. Some n) (one_place p q (λ (lower : p < q). none p lower known.0) (λ (higher : q < p). known.1 q higher here))

-- ---- the bytes of a map

-- an area decodes from its own bytes
abbrev Decodes : Area → Type 0
Decodes a = area_of (area_bytes a) ≡ a

head-name : (h : FmapHead) → fmap_head_of (fmap_head_bytes h) ≡ h → length h.name ≡ 32
unfolding fmap_head_of fmap_head_bytes
head-name h is = omega (arith, ap (λ (k : FmapHead). length k.name) is, length-take 32 (h.name ++ little_bytes 2 h.nareas), length-append h.name (little_bytes 2 h.nareas))

area-name : (a : Area) → Decodes a → length a.name ≡ 32
unfolding area_of area_bytes
area-name a is = omega (arith, ap (λ (k : Area). length k.name) is, length-take 32 (a.name ++ little_bytes 2 a.flags), length-append a.name (little_bytes 2 a.flags))

length-head : (h : FmapHead) → length h.name ≡ 32 → length (fmap_head_bytes h) ≡ 56
unfolding fmap_head_bytes
length-head h long = omega (arith, long, length-append h.name (little_bytes 2 h.nareas))

length-area : (a : Area) → length a.name ≡ 32 → length (area_bytes a) ≡ 42
unfolding area_bytes
length-area a long = omega (arith, long, length-append a.name (little_bytes 2 a.flags))

length-areas : (areas : List Area) → All Decodes areas → length (flat_map area_bytes areas) ≡ 42 * length areas
length-areas [] each = refl
length-areas (a ∷ areas) each =
    omega (arith, length-append (area_bytes a) (flat_map area_bytes areas), length-area a (area-name a (All-head Decodes a areas each)), length-areas areas (All-tail Decodes a areas each))

areas_read : (areas : List Area) (more : List ℕ) → All Decodes areas → areas_from (length areas) (flat_map area_bytes areas ++ more) ≡ areas
unfolding areas_from
areas_read [] more each = refl
areas_read (a ∷ areas) more each =
    let is : Decodes a = All-head Decodes a areas each in
    let long = length-area a (area-name a is) in
    let rest : List ℕ = flat_map area_bytes areas ++ more in
    let x : List ℕ = flat_map area_bytes (a ∷ areas) ++ more in
    let parts : x ≡ area_bytes a ++ rest = append_assoc (area_bytes a) (flat_map area_bytes areas) more in
    let front : take 42 x ≡ area_bytes a = ap (λ (l : List ℕ). take 42 l) parts ∙ take_at (area_bytes a) rest 42 long in
    let behind : drop 42 x ≡ rest = ap (λ (l : List ℕ). drop 42 l) parts ∙ drop_at (area_bytes a) rest 42 long in
    let first : area_of x ≡ a = sym (area_of-take x 42 (omega arith)) ∙ ap area_of front ∙ is in
    ap (λ (b : Area). b ∷ areas_from (length areas) (drop 42 x)) first ∙ ap (λ (l : List ℕ). a ∷ areas_from (length areas) l) behind ∙ ap (λ (l : List Area). a ∷ l) (areas_read areas more (All-tail Decodes a areas each))

valid : (h : FmapHead) (left : ℕ) → h.major ≡ 1 → is_map_name h.name ≡ true → map_len h ≤ left → is_valid_head h left ≡ true
unfolding is_valid_head
valid h left major named fits = rw (eq-eqb h.major 1 major, named, le-leb (map_len h) left fits) refl

pub maps_decode : (h : FmapHead) (areas : List Area) (more : List ℕ) → fmap_head_of (fmap_head_bytes h) ≡ h → All Decodes areas → h.major ≡ 1 → is_map_name h.name ≡ true → h.nareas ≡ length areas
    → IsReadAsMap h areas (fmap_head_bytes h ++ flat_map area_bytes areas ++ more)
maps_decode h areas more is each major named counted =
    let front : List ℕ = fmap_head_bytes h in
    let rest : List ℕ = flat_map area_bytes areas ++ more in
    let x : List ℕ = fmap_head_bytes h ++ flat_map area_bytes areas ++ more in
    let long : length (fmap_head_bytes h) ≡ 56 = length-head h (head-name h is) in
    let parts : x ≡ front ++ rest = append_assoc front (flat_map area_bytes areas) more in
    let first : take 56 x ≡ front = ap (λ (l : List ℕ). take 56 l) parts ∙ take_at front rest 56 long in
    let behind : drop 56 x ≡ rest = ap (λ (l : List ℕ). drop 56 l) parts ∙ drop_at front rest 56 long in
    let head : fmap_head_of x ≡ h = sym (fmap_head_of-take x 56 (omega arith)) ∙ ap fmap_head_of first ∙ is in
    let signed : has_signature x ≡ true = sym (has_signature-take x 56 (omega arith)) ∙ ap has_signature first ∙ signature_is_written front h refl in
    grind (arith, length-append, length-areas, valid, map_where, areas_read)

-- ---- fields which fit their bytes

pub record IsAreaInBytes (a : Area) : Type 0 where
  pub offset : a.offset < 2 ^ 32
  pub size : a.size < 2 ^ 32
  pub name : length a.name ≡ 32
  pub flags : a.flags < 2 ^ 16

-- a version 1 head with a valid name, the number of areas and fitting fields
pub record IsMapInBytes (h : FmapHead) (areas : List Area) : Type 0 where
  pub major : h.major ≡ 1
  pub base : h.base < 2 ^ 64
  pub size : h.size < 2 ^ 32
  pub name : length h.name ≡ 32
  pub named : is_map_name h.name ≡ true
  pub counted : h.nareas ≡ length areas
  pub few : length areas < 2 ^ 16
  pub each : All IsAreaInBytes areas

pub maps_read_back : (h : FmapHead) (areas : List Area) (more : List ℕ) → IsMapInBytes h areas → IsReadAsMap h areas (fmap_head_bytes h ++ flat_map area_bytes areas ++ more)
maps_read_back h areas more is =
    let head = fmap_head_is_read_back (fmap_head_bytes h) h refl (omega (arith, is.base)) (omega (arith, is.size)) (omega (arith, is.counted, is.few)) is.name in
    let decodes = λ (a : Area) (b : IsAreaInBytes a). area_is_read_back (area_bytes a) a refl (omega (arith, b.offset)) (omega (arith, b.size)) (omega (arith, b.flags)) b.name in
    maps_decode h areas more head (All-weaker IsAreaInBytes Decodes decodes areas is.each) is.major is.named is.counted
