-- An area with a different byte, or a smaller area with the byte's block, is reported.
use Rattle.std.proofs.Common.{◌≡◌, ◌∙◌, ℕ, zero, suc, ◌+◌, ◌-◌, ◌*◌, ◌/◌, ◌%◌, ◌<◌, ◌≤◌, Bool, true, false, List, [], ◌∷◌, ◌++◌, length, drop, get_or, map, min, Option, Some, None, refl, sym, ap, subst, arith}
use Rattle.std.specs.Prelude.{not, ◌&&◌, Contains, IsTrue, nat_le, nat_lt}
use Rattle.std.specs.Bool.{then_some}
use Rattle.std.specs.Str.{bytes_eq}
use Rattle.std.specs.List.{list_any, flat_map}
use Rattle.std.specs.Option.{option_map_or}
use Rattle.std.proofs.lemmas.Bool.{false_from_ne_true, and_from, or_left, or_right}
use Rattle.std.proofs.lemmas.Bool.Decides.{nat_tests}
use Rattle.std.proofs.lemmas.List.{get_or-take, get_or-drop, map-append}
use Rattle.std.proofs.lemmas.List.Folds.{list_any-append, Any-from_list_any}
use Rattle.std.proofs.lemmas.Slice.Eq.{bytes_eq-Decides}
use Rattle.flash_device.specs.Regions.{Range, bytes_in}
use Rattle.flash_map.proofs.FmapLemmas.{index-slice_range}
use Rattle.check_findings.specs.declared.areas.NumberedArea.{NumberedArea}
use Rattle.check_findings.specs.Areas.{area_end}
use Rattle.check_findings.specs.ImageFindings.{range_of}
use Rattle.check_changes.specs.Images.{lengths_of}
use Rattle.check_changes.specs.declared.areas.change.AreaChange.{AreaChange}
use Rattle.check_changes.specs.declared.areas.pairs.AreaPair.{AreaPair}
use Rattle.check_changes.specs.declared.images.Both.{Both}
use Rattle.check_changes.specs.Areas.{blocks_of, differs, count_below}
use Rattle.check_changes.proofs.AreaLemmas.BlockLemmas.{block}
use Rattle.check_changes.specs.Areas.{pairs, same_size_regions, has_block, is_held, is_difference, is_own_difference, compared, content_differences, left_after, entry_differences, area_change, area_changes_in, gone_of, area_changes}
use Rattle.check_changes.specs.Laws.{reports, DifferAt}

-- ---- one block

count_below-positive : (test : ℕ → Bool) (n k : ℕ) → k < n → test k ≡ true → 0 < count_below test n
count_below-positive test zero k lt is = absurd (omega (arith, lt))
count_below-positive test (suc n) k lt is =
    let before = count_below-positive test n k in
    let last : n ≤ k → test n ≡ true = λ le. let here : k ≡ n = omega arith in sym (ap test here) ∙ is in
    grind (arith, nat_tests, before, last)

get_or-block : (x : List ℕ) (i : ℕ) → get_or (block (i / 4096) x) (i % 4096) 0 ≡ get_or x i 0
get_or-block x i =
    let short : i % 4096 < 4096 = omega arith in
    let place : 4096 * (i / 4096) + i % 4096 ≡ i = omega arith in
    get_or-take 4096 (drop (4096 * (i / 4096)) x) (i % 4096) 0 short
    ∙ get_or-drop (4096 * (i / 4096)) x (i % 4096) 0
    ∙ ap (λ k. get_or x k 0) place

differs-byte : (x y : List ℕ) (i : ℕ) → (get_or x i 0 ≡ get_or y i 0 → ⊥) → differs x y (i / 4096) ≡ true
differs-byte x y i other =
    ap not (false_from_ne_true (bytes_eq (block (i / 4096) x) (block (i / 4096) y)) (λ same.
    other (sym (get_or-block x i) ∙ ap (λ (l : List ℕ). get_or l (i % 4096) 0) ((bytes_eq-Decides _ _).0 same) ∙ get_or-block y i)))

-- ---- the change of a pair is one of all changes

any-left : {X : Type 0} (test : X → Bool) (xs ys : List X) → list_any test xs ≡ true → list_any test (xs ++ ys) ≡ true
any-left test xs ys is = list_any-append test xs ys ∙ or_left (list_any test xs) (list_any test ys) is

any-right : {X : Type 0} (test : X → Bool) (xs ys : List X) → list_any test ys ≡ true → list_any test (xs ++ ys) ≡ true
any-right test xs ys is = list_any-append test xs ys ∙ or_right (list_any test xs) (list_any test ys) is

-- ---- the innermost area is reported

module _ (x y : List ℕ) (all : List AreaPair) where
  abbrev pair : NumberedArea → NumberedArea → AreaPair
  pair old new = record { old = Some old; new = new }

  abbrev ranges : NumberedArea → NumberedArea → Both Range
  ranges old new = record { old = range_of old; new = range_of new }

  abbrev pair_changes : ℕ → AreaPair → List AreaChange
  pair_changes left p = map (area_change p.new) (entry_differences p.old p.new ++ content_differences x y all p (compared left (same_size_regions (lengths_of x y) p)))

  changes_in-reports : (at left : ℕ) (ps : List AreaPair) (p : AreaPair) → Contains ps p → ((left : ℕ) → list_any (reports at) (pair_changes left p) ≡ true)
      → list_any (reports at) (area_changes_in x y all left ps) ≡ true
  changes_in-reports at left [] p (k, lt, is) here = absurd (omega (arith, lt))
  changes_in-reports at left (q ∷ ps) p (zero, lt, is) here =
      any-left (reports at) (pair_changes left q) _ (subst (λ (q : AreaPair). list_any (reports at) (pair_changes left q) ≡ true) (sym is) (here left))
  changes_in-reports at left (q ∷ ps) p (suc k, lt, is) here =
      any-right (reports at) (pair_changes left q) _ (changes_in-reports at (left_after left (same_size_regions (lengths_of x y) q)) ps p (k, omega (arith, lt), is) here)

  content-reports : (at left : ℕ) (old new : NumberedArea) → old.area.size ≡ new.area.size → (nat_le new.area.offset at && nat_lt at (area_end new.area)) ≡ true → 0 < count_below (is_difference x y (ranges old new)) (blocks_of old.area.size) → 0 < count_below (is_own_difference x y all (ranges old new)) (blocks_of old.area.size) → (fits : Bool)
      → list_any (reports at) (map (area_change new) (content_differences x y all (pair old new) (then_some fits (ranges old new)))) ≡ true
  content-reports at left old new same has some own fits = grind (arith, nat_tests)

  regions_of-same : (old new : NumberedArea) → old.area.size ≡ new.area.size → area_end old.area ≤ length x → area_end new.area ≤ length y → same_size_regions (lengths_of x y) (pair old new) ≡ Some (ranges old new)
  regions_of-same old new same in_old in_new = grind (arith, nat_tests)

  -- smaller areas that hold a block
  record Holder (outer : Both Range) (number : ℕ) : Type 0 where
    old : NumberedArea
    new : NumberedArea
    one : Contains all (pair old new)
    same_size : old.area.size ≡ new.area.size
    in_old : area_end old.area ≤ length x
    in_new : area_end new.area ≤ length y
    smaller : new.area.size < outer.new.size
    shift : old.area.offset + outer.new.start ≡ outer.old.start + new.area.offset
    begins : new.area.offset ≤ outer.new.start + 4096 * number
    ends : outer.new.start + min (4096 * number + 4096) outer.new.size ≤ new.area.offset + new.area.size

  holder : (outer : Both Range) (number : ℕ) (old : Option NumberedArea) (new : NumberedArea) → Contains all (record { old = old; new = new }) → option_map_or (has_block outer number) (same_size_regions (lengths_of x y) (record { old = old; new = new })) false ≡ true → Holder outer number
  holder outer number None new one test = absurd cc
  holder outer number (Some old) new one test = record {
    old = old;
    new = new;
    one = one;
    same_size = grind (arith, nat_tests);
    in_old = grind (arith, nat_tests);
    in_new = grind (arith, nat_tests);
    smaller = grind (arith, nat_tests);
    shift = grind (arith, nat_tests);
    begins = grind (arith, nat_tests);
    ends = grind (arith, nat_tests);
  }

  abbrev IsReported : ℕ → Type 0
  IsReported at = list_any (reports at) (area_changes_in x y all (8 * length y) all) ≡ true

  -- a different byte in smaller areas is in a reported area
  abbrev AreReportedBelow : ℕ → Type 0
  AreReportedBelow size = (old new : NumberedArea) (i : ℕ) → Contains all (pair old new) → new.area.size < size → DifferAt x y old new i → IsReported (new.area.offset + i)

  by_holder : (size : ℕ) → AreReportedBelow size → (old new : NumberedArea) (i : ℕ) → Holder (ranges old new) (i / 4096) → new.area.size < suc size → DifferAt x y old new i → IsReported (new.area.offset + i)
  by_holder size below old new i h small d =
      let k = new.area.offset + i - h.new.area.offset in
      let start : h.new.area.offset ≤ new.area.offset + i = omega (arith, h.begins) in
      let same_new : h.new.area.offset + k ≡ new.area.offset + i = omega (arith, start) in
      let same_old : h.old.area.offset + k ≡ old.area.offset + i = omega (arith, start, h.shift) in
      subst IsReported same_new (below h.old h.new k h.one (omega (arith, h.smaller, small)) (record {
        same_size = h.same_size;
        in_old = h.in_old;
        in_new = h.in_new;
        within = omega (arith, start, h.ends, d.within);
        differ = rw (same_old, same_new) d.differ;
      }))

  by_itself : (old new : NumberedArea) (i : ℕ) → Contains all (pair old new) → is_held (lengths_of x y) all (ranges old new) (i / 4096) ≡ false → DifferAt x y old new i → IsReported (new.area.offset + i)
  by_itself old new i one free d =
      let r = ranges old new in
      let at = new.area.offset + i in
      let lt : i < old.area.size = omega (arith, d.same_size, d.within) in
      let differ = differs-byte (bytes_in r.old x) (bytes_in r.new y) i (λ same. d.differ (sym (index-slice_range x old.area.offset old.area.size i lt) ∙ same ∙ index-slice_range y new.area.offset new.area.size i d.within)) in
      let some = count_below-positive (is_difference x y r) (blocks_of r.old.size) (i / 4096) (omega (arith, lt)) differ in
      let own = count_below-positive (is_own_difference x y all r) (blocks_of r.old.size) (i / 4096) (omega (arith, lt)) (and_from _ _ differ (ap not free)) in
      let within = d.within in
      let has : (nat_le new.area.offset at && nat_lt at (area_end new.area)) ≡ true = grind (arith, nat_tests) in
      changes_in-reports at (8 * length y) all (pair old new) one (λ left.
      rw (map-append (area_change new) (entry_differences (Some old) new) (content_differences x y all (pair old new) (compared left (same_size_regions (lengths_of x y) (pair old new)))), regions_of-same old new d.same_size d.in_old d.in_new)
      (any-right (reports at) (map (area_change new) (entry_differences (Some old) new)) _ (content-reports at left old new d.same_size has some own (nat_le old.area.size left))))

  by_test : (size : ℕ) → AreReportedBelow size → (old new : NumberedArea) (i : ℕ) → Contains all (pair old new) → new.area.size < suc size → DifferAt x y old new i → (held : Bool) → is_held (lengths_of x y) all (ranges old new) (i / 4096) ≡ held → IsReported (new.area.offset + i)
  by_test size below old new i one small d true held =
      let any = Any-from_list_any (λ p. option_map_or (has_block (ranges old new) (i / 4096)) (same_size_regions (lengths_of x y) p) false) all held in
      by_holder size below old new i (holder (ranges old new) (i / 4096) any.1.old any.1.new (any.0, any.2, any.3) any.4) small d
  by_test size below old new i one small d false free = by_itself old new i one free d

  reported_below : (size : ℕ) → AreReportedBelow size
  reported_below zero old new i one small d = absurd (omega (arith, small))
  reported_below (suc size) old new i one small d = by_test size (reported_below size) old new i one small d _ refl

pub reported : (x y : List ℕ) (olds news : List NumberedArea) (old new : NumberedArea) (i : ℕ) → Contains (pairs olds news) (record { old = Some old; new = new }) → DifferAt x y old new i
    → IsTrue (list_any (reports (new.area.offset + i)) (area_changes x olds y news))
unfolding area_changes
reported x y olds news old new i one d =
    let all = pairs olds news in
    any-left (reports (new.area.offset + i)) (area_changes_in x y all (8 * length y) all) (flat_map (gone_of olds news) olds) (reported_below x y all (suc new.area.size) old new i one (omega arith) d)
