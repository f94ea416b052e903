-- The largest reported content is the longest content with a first place.
use Rattle.std.proofs.Common.{◌≡◌, ℕ, ◌+◌, ◌-◌, ◌≤◌, ◌⊎◌, inl, inr, zero, suc, Bool, true, false, cond, List, [], ◌∷◌, ◌++◌, length, Option, Some, None, Contains, refl, sym, ap, subst, ◌∙◌, arith}
use Rattle.std.specs.Prelude.{◌==◌, ◌||◌, is_some, max, nat_le}
use Rattle.std.specs.List.{cons_option, filter_map, slice_get}
use Rattle.std.proofs.lemmas.Bool.{le-leb, leb-true}
use Rattle.std.proofs.lemmas.Bool.Decides.{nat_tests}
use Rattle.std.proofs.lemmas.List.Elements.{All-contains, Contains-append_cases, Contains-append_right}
use Rattle.flash_format.specs.Cut.{cut}
use Rattle.cbfs_walk.specs.Shapes.{shape_fault}
use Rattle.cbfs_walk.specs.CellReadings.{place_after}
use Rattle.cbfs_edit.specs.Places.{first_place, place_in}
use Rattle.cbfs_edit.specs.Places.{add_run, runs, runs_from}
use Rattle.cbfs_edit.specs.declared.group.CellRange.{CellRange}
use Rattle.cbfs_edit.specs.declared.place.Place.{Place}
use Rattle.std.specs.List.{fold}
use Rattle.flash_format.specs.Head.{head_of, is_free}
use Rattle.check_findings.specs.declared.region.entry_counts.EntryCounts.{EntryCounts}
use Rattle.check_findings.specs.RegionFindings.{cells_findings, counts_after, count_findings, end_findings, entry_counts, marked, region_findings, usable_room, walk_findings}
use Rattle.check_findings.specs.declared.region.finding.RegionFinding.{RegionFinding}
use Rattle.check_findings.specs.declared.region.finding.RegionFinding.TheVariants.{Component, LargestContent}
use Rattle.check_findings.proofs.RegionLemmas.Parts.{IsIn, cell_part, end_part, of_cells, of_end}
use Rattle.cbfs_edit.specs.declared.place.Wanted.{Wanted}
use Rattle.cbfs_edit.specs.declared.place.Spot.TheVariants.{First}
use Rattle.std.specs.Prelude.{◌↔◌}
use Rattle.check_findings.proofs.RegionLemmas.PartNames.{all_marked}

abbrev content_of : ℕ → Wanted
content_of n = record { metadata_len = 28; len = n; spot = First }

-- `add` has a place for n bytes, the first with room
abbrev IsTaken : List ℕ → ℕ → Type 0
IsTaken x n = is_some (first_place (content_of n) (length x) (runs x)) ≡ true

-- the largest reported content has at least n bytes
abbrev IsWithinLargest : List ℕ → ℕ → Type 0
IsWithinLargest x n = (largest : ℕ) × Contains (region_findings x) (LargestContent (Some largest)) × (n ≤ largest)

module _ (size n : ℕ) where
  abbrev place_of : CellRange → Option Place
  place_of = place_in (content_of n) size

  abbrev has_place : List CellRange → Bool
  has_place all = is_some (slice_get (filter_map place_of all) 0)

  abbrev usable : ℕ → ℕ → ℕ
  usable start end = end - start - cond (end == size) 4 0

  abbrev enough : ℕ → Bool
  enough room = nat_le (28 + n) room

  in_run : (start end : ℕ) → is_some (place_of (record { start = start; end = end })) ≡ enough (usable start end)
  in_run start end = grind (arith, nat_tests)

  first_or : (o : Option Place) (later : List Place) → is_some (slice_get (cons_option o later) 0) ≡ (is_some o || is_some (slice_get later 0))
  first_or None later = refl
  first_or (Some place) later = refl

  no_run : (start end : ℕ) → end ≤ start → enough (usable start end) ≡ false
  no_run start end over = grind (arith, nat_tests)

  run_or : (start end : ℕ) (later : List CellRange) → has_place (add_run start end later) ≡ (enough (usable start end) || has_place later)
  run_or start end later = grind (arith, nat_tests, in_run, no_run, first_or)

  enough_max : (a b : ℕ) → enough (max a b) ≡ (enough a || enough b)
  enough_max a b = grind (arith, nat_tests)

  count_all : EntryCounts → List (List ℕ) → EntryCounts
  count_all = fold (λ (c : EntryCounts) x. counts_after c (is_free (head_of x)) (length x))

  -- a run has a place if the content fits the most usable bytes of a run
  among : (c : EntryCounts) (cells : List (List ℕ)) → c.size ≡ size → (enough c.room || has_place (runs_from c.start c.at cells)) ≡ enough (usable_room (count_all c cells))
  unfolding runs_from count_all
  among c [] same = let most = enough_max c.room (usable c.start c.at) in grind (arith, nat_tests, run_or c.start c.at [], most, same)
  among c (x ∷ cells) same =
      let end = c.at + length x in
      let longer = among (counts_after c true (length x)) cells same in
      let later = among (counts_after c false (length x)) cells same in
      let closed = run_or c.start c.at (runs_from end end cells) in
      let most = enough_max c.room (usable c.start c.at) in
      grind (arith, nat_tests, longer, later, closed, most, same)

-- marks change no other finding than a component
module _ (m : ℕ) where
  unmarked : (earlier : List RegionFinding) (f : RegionFinding) → marked earlier f ≡ LargestContent (Some m) → f ≡ LargestContent (Some m)
  unmarked earlier (Component at name is content) same = absurd cc
  unmarked earlier other same = same

  was_there : (earlier all : List RegionFinding) → Contains (all_marked earlier all) (LargestContent (Some m)) → Contains all (LargestContent (Some m))
  unfolding all_marked
  was_there earlier [] has = has
  was_there earlier (f ∷ all) (zero, lt, is) = (0, omega arith, unmarked earlier f is)
  was_there earlier (f ∷ all) (suc k, lt, is) = Contains-append_right (f ∷ []) all _ (was_there (f ∷ earlier) all (k, omega (arith, lt), is))

  stays : (earlier all : List RegionFinding) → Contains all (LargestContent (Some m)) → Contains (all_marked earlier all) (LargestContent (Some m))
  unfolding all_marked
  stays earlier [] has = has
  stays earlier (f ∷ all) (zero, lt, is) = (0, omega arith, ap (marked earlier) is)
  stays earlier (f ∷ all) (suc k, lt, is) = Contains-append_right (marked earlier f ∷ []) _ _ (stays (f ∷ earlier) all (k, omega (arith, lt), is))

module _ (x : List ℕ) (good : shape_fault x ≡ None) where
  abbrev room : ℕ
  room = usable_room (entry_counts (length x) (cut x).cells)

  of_all : List RegionFinding
  of_all = cells_findings 0 (cut x).cells

  last : List RegionFinding
  last = end_findings x (place_after 0 (cut x).cells) (cut x).end

  whole : region_findings x ≡ all_marked [] (of_all ++ (last ++ count_findings (entry_counts (length x) (cut x).cells)))
  unfolding all_marked region_findings walk_findings of_all last
  whole = rw good refl

  reported : 28 ≤ room → Contains (region_findings x) (LargestContent (Some (room - 28)))
  reported fits =
      subst (λ l. Contains l (LargestContent (Some (room - 28)))) (sym whole)
      (stays (room - 28) [] _ (Contains-append_right of_all _ _ (Contains-append_right last _ _ (2, omega arith, rw (le-leb 28 room fits) refl))))

  -- the length and 28 bytes are the room
  by_counts : (m : ℕ) → Contains (count_findings (entry_counts (length x) (cut x).cells)) (LargestContent (Some m)) → 28 + m ≡ room
  by_counts m (zero, below, is) = absurd cc
  by_counts m (suc zero, below, is) = absurd cc
  by_counts m (suc (suc zero), below, is) = grind (arith, nat_tests)
  by_counts m (suc (suc (suc k)), below, is) = absurd (omega (arith, below))

  found : (m : ℕ) → Contains (region_findings x) (LargestContent (Some m)) → 28 + m ≡ room
  unfolding of_all last
  found m has = go (Contains-append_cases of_all _ _ (was_there m [] _ (subst (λ l. Contains l (LargestContent (Some m))) whole has)))
    where
      later : Contains last (LargestContent (Some m)) ⊎ Contains (count_findings (entry_counts (length x) (cut x).cells)) (LargestContent (Some m)) → 28 + m ≡ room
      later (inl there) = absurd (let is : IsIn end_part (LargestContent (Some m)) = All-contains (IsIn end_part) last (LargestContent (Some m)) (of_end x (place_after 0 (cut x).cells) (cut x).end) there in cc)
      later (inr there) = by_counts m there

      go : Contains of_all (LargestContent (Some m)) ⊎ Contains (last ++ count_findings (entry_counts (length x) (cut x).cells)) (LargestContent (Some m)) → 28 + m ≡ room
      go (inl there) = absurd (let is : IsIn cell_part (LargestContent (Some m)) = All-contains (IsIn cell_part) of_all (LargestContent (Some m)) (of_cells 0 (cut x).cells) there in cc)
      go (inr there) = later (Contains-append_cases last _ _ there)

  is_taken : (n : ℕ) → is_some (first_place (content_of n) (length x) (runs x)) ≡ nat_le (28 + n) room
  unfolding count_all
  is_taken n = let all = among (length x) n (entry_counts (length x) []) (cut x).cells refl in grind (arith, nat_tests, all)

  taken : (n : ℕ) → IsTaken x n → IsWithinLargest x n
  taken n is =
      let fits : 28 + n ≤ room = leb-true (28 + n) room (sym (is_taken n) ∙ is) in
      (room - 28, reported (omega (arith, fits)), omega (arith, fits))

  within : (n : ℕ) → IsWithinLargest x n → IsTaken x n
  within n (largest, is_reported, enough) = is_taken n ∙ le-leb (28 + n) room (omega (arith, found largest is_reported, enough))

pub largest_content : (x : List ℕ) (n : ℕ) → shape_fault x ≡ None → IsTaken x n ↔ IsWithinLargest x n
largest_content x n good = (taken x good n, within x good n)
