-- A map without other findings is sound.
use Rattle.std.specs.Prelude.{◌⊎◌}
use Rattle.std.proofs.Common.{◌≡◌, ℕ, zero, suc, ◌+◌, ◌<◌, ◌≤◌, Bool, true, false, not, nat_lt, nat_eq, All, List, [], ◌∷◌, ◌++◌, drop, length, Option, Some, None, refl, sym, ap, subst, ◌∙◌, arith}
use Rattle.std.specs.Prelude.{Contains, IsSomeAnd}
use Rattle.std.specs.List.{find, flat_map, list_any}
use Rattle.std.specs.Option.{option_map, option_map_or, option_to_list}
use Rattle.std.specs.Str.{is_utf8}
use Rattle.std.proofs.lemmas.Bool.{not-false, or_parts, eqb-true}
use Rattle.std.proofs.lemmas.List.Elements.{All-nil, All-cons, All-contains, All-contains_itself, All-weaker}
use Rattle.std.proofs.lemmas.Grind.{common_steps}
use Rattle.std.proofs.lemmas.List.Folds.{list_any-append}
use Rattle.std.proofs.lemmas.Slice.Eq.{bytes_eq-Decides}
use lib.Chars.{codes}
use Rattle.flash_format.specs.declared.flashmap.Area.{Area}
use Rattle.flash_format.specs.Flashmap.{text_of}
use Rattle.flash_map.specs.declared.search.FoundMap.{FoundMap}
use Rattle.flash_map.specs.Fmap.{found_from, found_in}
use Rattle.check_findings.specs.declared.areas.NumberedArea.{NumberedArea}
use Rattle.check_findings.specs.Lists.{only_if}
use Rattle.check_findings.specs.declared.map.finding.MapFinding.{MapFinding}
use Rattle.check_findings.specs.declared.map.finding.MapFinding.TheVariants as findings
use Rattle.check_findings.specs.MapFindings.{area_findings, ends_inside, findings_of, begins_with_map, map_area_findings, map_findings, name_findings, namesake, overlap, overlap_findings}
use Rattle.check_findings.specs.Areas.{area_end, has_name, map_areas}
use Rattle.check_findings.proofs.MapAreas.{numbered_from}
use Rattle.check_findings.specs.Laws.{IsSound}

-- ---- no findings

every : MapFinding → Bool
every finding = true

-- if no element of both lists passes a test, no element of either list does
pub none_of : {X : Type 0} (test : X → Bool) (xs ys : List X) → list_any test (xs ++ ys) ≡ false → (list_any test xs ≡ false) × (list_any test ys ≡ false)
none_of test xs ys none = or_parts (list_any test xs) (list_any test ys) (sym (list_any-append test xs ys) ∙ none)

-- no finding passes a test that these findings pass
module _ (test : MapFinding → Bool) where
  none_each : (f : NumberedArea → List MapFinding) (areas : List NumberedArea) → list_any test (flat_map f areas) ≡ false → All (λ (a : NumberedArea). list_any test (f a) ≡ false) areas
  none_each f [] none = All-nil (λ (a : NumberedArea). list_any test (f a) ≡ false)
  none_each f (a ∷ areas) none =
      let parts = none_of test (f a) (flat_map f areas) none in All-cons (λ (b : NumberedArea). list_any test (f b) ≡ false) a areas parts.0 (none_each f areas parts.1)

  untold : (b : Bool) (finding : MapFinding) → test finding ≡ true → list_any test (only_if b finding) ≡ false → b ≡ false
  untold b finding passes none = grind (arith, common_steps, passes, none)

uncaused : {X : Type 0} (f : X → MapFinding) (cause : Option X) → list_any every (option_to_list (option_map f cause)) ≡ false → cause ≡ None
unfolding every
uncaused f cause none = grind (arith, common_steps, none)

find-none : (test : NumberedArea → Bool) (areas : List NumberedArea) → find test areas ≡ None → All (λ (a : NumberedArea). test a ≡ false) areas
find-none test [] e = All-nil (λ (a : NumberedArea). test a ≡ false)
find-none test (a ∷ areas) e = All-cons (λ (b : NumberedArea). test b ≡ false) a areas (grind (arith, common_steps, e)) (find-none test areas (grind (arith, common_steps, e)))

-- ---- of an area

sound_area : (n : ℕ) (a : NumberedArea) → list_any every (area_findings n a) ≡ false → ((0 < a.area.size) × (area_end a.area ≤ n)) × (is_utf8 (text_of a.area.name) ≡ true)
unfolding every
sound_area n a none = grind (arith, common_steps, none)

-- ---- names

index-from : (k : ℕ) (areas : List Area) (a : NumberedArea) → Contains (numbered_from k areas) a → k ≤ a.number
index-from k [] a (i, lt, is) = absurd (omega (arith, lt))
index-from k (x ∷ areas) a (zero, lt, is) = omega (arith, ap (λ (b : NumberedArea). b.number) is)
index-from k (x ∷ areas) a (suc i, lt, is) = let le = index-from (k + 1) areas a (i, omega (arith, lt), is) in omega (arith, le)

-- a name finds its area, if it finds none with a lower index
first_named : (k : ℕ) (areas : List Area) (a : NumberedArea) → Contains (numbered_from k areas) a
    → option_map_or (λ (first : NumberedArea). nat_lt first.number a.number) (find (has_name (text_of a.area.name)) (numbered_from k areas)) false ≡ false → find (has_name (text_of a.area.name)) (numbered_from k areas) ≡ Some a
first_named k [] a (i, lt, is) none = absurd (omega (arith, lt))
first_named k (x ∷ areas) a (zero, lt, is) none = rw ((bytes_eq-Decides (text_of a.area.name) (text_of x.name)).1 (ap (λ (b : NumberedArea). text_of b.area.name) (sym is))) (ap Some is)
first_named k (x ∷ areas) a (suc i, lt, is) none =
    let there : Contains (numbered_from (k + 1) areas) a = (i, omega (arith, lt), is) in
    grind (arith, common_steps, none, index-from (k + 1) areas a there, first_named (k + 1) areas a there)

pub named : (test : MapFinding → Bool) (areas : List Area) (a : NumberedArea) → ((first : NumberedArea) → test (findings.SameName a first) ≡ true)
    → list_any test (flat_map (name_findings (numbered_from 0 areas)) (numbered_from 0 areas)) ≡ false → Contains (numbered_from 0 areas) a → find (has_name (text_of a.area.name)) (numbered_from 0 areas) ≡ Some a
named test areas a passes none there =
    let all = numbered_from 0 areas in
    let none_here = All-contains (λ (b : NumberedArea). list_any test (name_findings all b) ≡ false) all a (none_each test (name_findings all) all none) there in
    first_named 0 areas a there (grind (arith, common_steps, none_here, passes))

-- ---- overlaps

nest : (a b : Area) → ends_inside a b ≡ false → a.offset < b.offset → (area_end a ≤ b.offset) ⊎ (area_end b ≤ area_end a)
nest a b one before = grind (arith, common_steps, one, before)

nested : (areas : List NumberedArea) → list_any every (overlap_findings areas) ≡ false → (a b : NumberedArea) → Contains areas a → Contains areas b → a.area.offset < b.area.offset → (area_end a.area ≤ b.area.offset) ⊎ (area_end b.area ≤ area_end a.area)
unfolding every
nested areas none a b there here =
    let each = none_each every (λ (c : NumberedArea). option_to_list (option_map (findings.Overlap c) (find (overlap c) areas))) areas (grind (arith, common_steps, none)) in
    let alone = uncaused (findings.Overlap a) (find (overlap a) areas) (All-contains (λ (c : NumberedArea). list_any every (option_to_list (option_map (findings.Overlap c) (find (overlap c) areas))) ≡ false) areas a each there) in
    let parts = or_parts (ends_inside a.area b.area) (ends_inside b.area a.area) (All-contains (λ (c : NumberedArea). overlap a c ≡ false) areas b (find-none (overlap a) areas alone) here) in
    nest a.area b.area parts.0

-- ---- the whole map

held : (map : FoundMap) (o : Option NumberedArea) → list_any every (only_if (not (option_map_or (begins_with_map map) o false)) (findings.MapAreaMisses o)) ≡ false → IsSomeAnd o (λ a. begins_with_map map a ≡ true)
unfolding every
held map None e = absurd cc
held map (Some a) e = grind (arith, common_steps, e)

sound_of : (image : List ℕ) (map : FoundMap) → found_in image ≡ Some map → findings_of (length image) map (found_from (map.at + 1) image) (map_areas image map) ≡ findings.Map map ∷ [] → IsSound image map (map_areas image map)
unfolding every
sound_of image map found e =
    let n = length image in
    let areas = map_areas image map in
    let next = found_from (map.at + 1) image in
    let others = option_to_list (option_map findings.OtherMap next) in
    let size = only_if (not (nat_eq map.head.size n)) findings.OtherSize in
    let rest : others ++ size ++ flat_map (area_findings n) areas ++ flat_map (name_findings areas) areas ++ overlap_findings areas ++ map_area_findings map areas ≡ [] = ap (drop 1) e in
    let a = none_of every _ (map_area_findings map areas) (ap (list_any every) rest) in
    let b = none_of every _ (overlap_findings areas) a.0 in
    let c = none_of every _ (flat_map (name_findings areas) areas) b.0 in
    let d = none_of every (others ++ size) (flat_map (area_findings n) areas) c.0 in
    let f = none_of every others size d.0 in
    let each = none_each every (area_findings n) areas d.1 in
    let Is : NumberedArea → Type 0 = λ x. list_any every (area_findings n x) ≡ false in
    record {
      found = found;
      size = eqb-true map.head.size n (not-false (nat_eq map.head.size n) (untold every _ findings.OtherSize refl f.1));
      only = uncaused findings.OtherMap next f.0;
      inside = All-weaker Is (λ a. (0 < a.area.size) × (area_end a.area ≤ n)) (λ a none. (sound_area n a none).0) areas each;
      text = All-weaker Is (λ a. is_utf8 (text_of a.area.name) ≡ true) (λ a none. (sound_area n a none).1) areas each;
      named = All-weaker (Contains areas) (λ a. namesake a areas ≡ Some a) (λ a. named every _ a (λ first. refl) c.1) areas (All-contains_itself areas);
      nested = nested areas b.1;
      held = held map (find (has_name (codes "FMAP")) areas) a.1;
    }

pub sound : (image : List ℕ) (map : FoundMap) → map_findings image ≡ findings.Map map ∷ [] → IsSound image map (map_areas image map)
unfolding map_findings
sound image map e = go (found_in image) refl e
  where
    go : (o : Option FoundMap) → found_in image ≡ o → option_map_or (λ (m : FoundMap). findings_of (length image) m (found_from (m.at + 1) image) (map_areas image m)) o (findings.NoMap ∷ []) ≡ findings.Map map ∷ [] → IsSound image map (map_areas image map)
    go None found e = absurd cc
    go (Some m) found e =
        let same : m ≡ map = cc in
        subst (λ (k : FoundMap). IsSound image k (map_areas image k)) same (sound_of image m found (e ∙ ap (λ (k : FoundMap). findings.Map k ∷ []) (sym same)))
