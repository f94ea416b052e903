-- Areas that cannot contain a block.
use Rattle.std.proofs.Common.{◌≡◌, ◌∙◌, ℕ, ◌+◌, ◌-◌, ◌*◌, ◌%◌, ◌<◌, ◌≤◌, inl, inr, Bool, ◌||◌, true, false, List, [], ◌∷◌, ◌++◌, length, take, drop, get_or, min, max, Option, Some, None, refl, sym, ap, add-one, arith, leb}
use Rattle.std.specs.Prelude.{option_map, option_to_list}
use Rattle.std.specs.Option.{option_map_or}
use Rattle.std.proofs.Math.Bool.{or-false, or_assoc}
use Rattle.std.proofs.Math.Seq.{drop-cons, get_or-append_seam}
use Rattle.std.proofs.lemmas.List.{get_or_append_left, get_or_default, take-append-drop}
use Rattle.check_changes.specs.declared.areas.pairs.AreaPair.{AreaPair}
use Rattle.std.specs.Prelude.{All, slice_index_or}
use Rattle.std.specs.List.{list_any}
use Rattle.std.specs.List.Sorted.{IsPartitionPoint}
use Rattle.std.proofs.lemmas.Bool.{cases_lt, false_from_ne_true, leb-false}
use Rattle.std.proofs.lemmas.Bool.Decides.{nat_tests}
use Rattle.std.proofs.lemmas.List.Folds.{list_any-append, list_any_none}
use Rattle.flash_device.specs.Regions.{Range}
use Rattle.check_changes.specs.declared.areas.holders.Holder.{Holder}
use Rattle.check_changes.specs.declared.images.Both.{Both}
use Rattle.check_changes.specs.Areas.{has_block, is_held, same_size_regions}
use Rattle.check_changes.specs.Holders.{end_of, holders_have, place_of, ranges_of, shift_of, start_of}

shift_same : (a b c d : ℕ) → a + d ≡ c + b → shift_of a b ≡ shift_of c d
shift_same a b c d is =
    let same : b + 4294967296 - a ≡ d + 4294967296 - c = omega (arith, is) in
    ap (λ n. n % 4294967296) same

module _ (outer : Both Range) (number : ℕ) where
  -- the block's start, and its end
  abbrev pub block_start : ℕ
  block_start = outer.new.start + 4096 * number

  abbrev pub block_end : ℕ
  block_end = outer.new.start + min (4096 * number + 4096) outer.new.size

  abbrev pub place_in : ℕ → ℕ
  place_in at = place_of outer.old.start outer.new.start at

  module _ (h : Holder) (has : has_block outer number (ranges_of h) ≡ true) where
    same_shift : h.old + outer.new.start ≡ outer.old.start + h.new
    same_shift = grind (arith, nat_tests)

    starts : h.new ≤ block_start
    starts = grind (arith, nat_tests)

    ends : block_end ≤ h.new + h.size
    ends = grind (arith, nat_tests)

    smaller : h.size < outer.new.size
    smaller = grind (arith, nat_tests)

    starts_before : start_of h ≤ place_in block_start
    starts_before = omega (arith, starts, shift_same h.old h.new outer.old.start outer.new.start same_shift)

    ends_after : outer.new.start + outer.new.size < 4294967296 → place_in block_end ≤ end_of h
    ends_after fit = omega (arith, fit, ends, shift_same h.old h.new outer.old.start outer.new.start same_shift)

  -- all areas are at least as large
  pub none_smaller : (smallest : ℕ) (all : List Holder) → All (λ h. smallest ≤ h.size) all → outer.new.size ≤ smallest → holders_have outer number all ≡ false
  none_smaller smallest all sizes large =
      list_any_none (λ h. has_block outer number (ranges_of h)) all (λ k d lt.
      false_from_ne_true _ (λ has. absurd (omega (arith, large, sizes k d lt, smaller (slice_index_or all k d) has))))

  -- each area ends before the end of the block, or starts after its start
  pub none_there : (all : List Holder) (reaches : List ℕ) (count start end : ℕ) → start ≡ place_in block_start → end ≡ place_in block_end → outer.new.start + outer.new.size < 4294967296
      → IsPartitionPoint (λ h. leb (start_of h) start ≡ true) (λ h. leb (start_of h) start ≡ false) all count
      → ((k : ℕ) (d : Holder) → k < count → k < length all → end_of (slice_index_or all k d) < end) → holders_have outer number all ≡ false
  none_there all reaches count start end first last fit point before =
      list_any_none (λ h. has_block outer number (ranges_of h)) all (λ k d lt.
      let h = slice_index_or all k d in
      false_from_ne_true _ (λ has.
      elim (cases_lt k count) [
        | inl below ↦ absurd (omega (arith, last, before k d below lt, ends_after h has fit))
        | inr above ↦ absurd (omega (arith, first, leb-false _ _ (point.1 k d above lt), starts_before h has))
      ]))

-- ---- holders of pairs

one_has : (outer : Both Range) (number : ℕ) (found : Option Holder) → option_map_or (has_block outer number) (option_map ranges_of found) false ≡ holders_have outer number (option_to_list found)
one_has outer number None = refl
one_has outer number (Some h) = sym (or-false (has_block outer number (ranges_of h)))

-- another pair
pub held_more : (lens : Both ℕ) (pairs : List AreaPair) (i : ℕ) (d : AreaPair) (holders next : List Holder) (found : Option Holder) (outer : Both Range) (number : ℕ) → i < length pairs
    → option_map ranges_of found ≡ same_size_regions lens (get_or pairs i d) → next ≡ holders ++ option_to_list found
    → (holders_have outer number holders || is_held lens (drop i pairs) outer number) ≡ is_held lens pairs outer number
    → (holders_have outer number next || is_held lens (drop (i + 1) pairs) outer number) ≡ is_held lens pairs outer number
held_more lens pairs i d holders next found outer number lt is pushed so_far =
    let has = holders_have outer number in
    let rest = is_held lens (drop (i + 1) pairs) outer number in
    let here : option_map_or (has_block outer number) (same_size_regions lens (get_or pairs i d)) false ≡ has (option_to_list found) = rw (← is) (one_has outer number found) in
    let split : is_held lens (drop i pairs) outer number ≡ (has (option_to_list found) || rest) = rw (← here, add-one, drop-cons pairs i d lt) refl in
    ap (λ l. has l || rest) pushed
    ∙ ap (λ b. b || rest) (list_any-append (λ h. has_block outer number (ranges_of h)) holders (option_to_list found))
    ∙ or_assoc (has holders) (has (option_to_list found)) rest
    ∙ ap (λ b. has holders || b) (sym split)
    ∙ so_far

-- ---- groups of holders

-- another group
pub grouped_more : {G : Type 0} (has : G → Bool) (has_one : List Holder → Bool) (groups next : List G) (group : G) (rest some others all : List Holder) → next ≡ groups ++ group ∷ [] → has group ≡ has_one some → has_one rest ≡ (has_one some || has_one others)
    → (list_any has groups || has_one rest) ≡ has_one all → (list_any has next || has_one others) ≡ has_one all
grouped_more has has_one groups next group rest some others all pushed same split so_far =
    ap (λ l. list_any has l || has_one others) pushed
    ∙ ap (λ b. b || has_one others) (list_any-append has groups (group ∷ []) ∙ ap (λ b. list_any has groups || b) (or-false (has group) ∙ same))
    ∙ or_assoc (list_any has groups) (has_one some) (has_one others)
    ∙ ap (λ b. list_any has groups || b) (sym split)
    ∙ so_far

-- a list in two parts
pub has_parts : (outer : Both Range) (number n : ℕ) (rest some others : List Holder) → some ≡ take n rest → others ≡ drop n rest → holders_have outer number rest ≡ (holders_have outer number some || holders_have outer number others)
has_parts outer number n rest some others first last =
    ap (holders_have outer number) (sym (take-append-drop n rest))
    ∙ list_any-append (λ h. has_block outer number (ranges_of h)) (take n rest) (drop n rest)
    ∙ ap (λ l. holders_have outer number l || holders_have outer number (drop n rest)) (sym first)
    ∙ ap (λ l. holders_have outer number some || holders_have outer number l) (sym last)

-- ---- reaches

-- another number, at least the ends so far
pub reached_more : (all : List Holder) (reaches next : List ℕ) (count reach more : ℕ) (d : Holder) → count < length all → length reaches ≡ count → next ≡ reaches ++ more ∷ [] → more ≡ max (end_of (get_or all count d)) reach
    → ((i k : ℕ) (d : Holder) → i ≤ k → k < count → end_of (slice_index_or all i d) ≤ slice_index_or reaches k 0)
    → ((i : ℕ) (d : Holder) → i < count → end_of (slice_index_or all i d) ≤ reach)
    → ((i k : ℕ) (d : Holder) → i ≤ k → k < count + 1 → end_of (slice_index_or all i d) ≤ slice_index_or next k 0)
    × ((i : ℕ) (d : Holder) → i < count + 1 → end_of (slice_index_or all i d) ≤ more)
reached_more all reaches next count reach more d inside long pushed highest reached so_far =
    let at_most : (i : ℕ) (e : Holder) → i < count + 1 → end_of (slice_index_or all i e) ≤ more = λ i e lt. elim (cases_lt i count) [
      | inl below ↦ omega (arith, highest, so_far i e below)
      | inr last ↦
          let here : i ≡ count = omega (arith, lt, last) in
          let same : slice_index_or all i e ≡ get_or all count d = ap (λ k. get_or all k e) here ∙ get_or_default all count e d inside in
          omega (arith, highest, ap end_of same)
    ] in (
      λ i k e le lt. elim (cases_lt k count) [
        | inl below ↦
            let same : slice_index_or next k 0 ≡ slice_index_or reaches k 0 = ap (λ (l : List ℕ). get_or l k 0) pushed ∙ get_or_append_left reaches (more ∷ []) 0 k (omega (arith, below, long)) in
            omega (arith, same, reached i k e le below)
        | inr last ↦
            let here : k ≡ length reaches = omega (arith, long, lt, last) in
            let same : slice_index_or next k 0 ≡ more = ap (λ (l : List ℕ). get_or l k 0) pushed ∙ ap (λ j. get_or (reaches ++ more ∷ []) j 0) here ∙ get_or-append_seam reaches more [] 0 in
            omega (arith, same, at_most i e (omega (arith, le, lt)))
      ],
      at_most,
    )
