-- The runs are the maximal sequences of free cells, in order. An empty entry over a run keeps the
-- components.
use Rattle.std.proofs.Common.{◌≡◌, ℕ, ◌+◌, ◌<◌, ◌⊎◌, ⊎_elim, inl, inr, zero, suc, List, [], ◌∷◌, ◌++◌, length, sym, ◌∙◌, ap, subst, refl, arith, All, Contains, append_assoc, length-append, ◌≤◌, ◌%◌}
use Rattle.std.specs.Prelude.{nat_lt, ◌↔◌, ◌^◌}
use Rattle.std.specs.List.{concat, AllPairs}
use Rattle.std.proofs.lemmas.Bool.{cases_Bool, lt-ltb, ltb-true, cond_both}
use Rattle.std.proofs.lemmas.List.Elements.{All-nil, All-head, All-tail, All-push, All-cons}
use Rattle.flash_format.specs.Head.{head_of, is_free}
use Rattle.flash_format.specs.Cut.{cut, IsCell}
use Rattle.cbfs_edit.specs.Removals.{IsCellRange}
use Rattle.cbfs_edit.specs.Places.{add_run, runs, runs_from, IsRunOf}
use Rattle.cbfs_edit.specs.Changes.{IsEmptied, SameCells}
use Rattle.cbfs_edit.specs.declared.group.CellRange.{CellRange}
use Rattle.cbfs_edit.proofs.Groups.{IsFree, EndsWithComponent, BeginsWithComponent, length-concat-push, length-placed, row_place, ends_after, ends_push, not_alone, between}
use Rattle.flash_format.proofs.Splices.{AllFree, components-free, group-components}
use Rattle.std.proofs.lemmas.List.Kept.{AllPairs-cons}
use Rattle.flash_format.proofs.CutSteps.{cell_span}
use Rattle.flash_format.proofs.CutLaws.{cut_exists}
use Rattle.std.proofs.lemmas.List.{append-nil}
use Rattle.flash_format.specs.Components.{components_from}
use Rattle.flash_format.specs.Splices.{CellsBetween}
use Rattle.cbfs_edit.proofs.EmptyEntries.{group_range, emptied-components, emptied-end}

-- ---- each run is such a sequence

-- a run with its end here
closed : (start at : ℕ) (done row others : List (List ℕ)) (run : CellRange) → EndsWithComponent done → All IsFree row → BeginsWithComponent others → length (concat done) ≡ start → start + length (concat row) ≡ at
    → start < at → record { start = start; end = at } ≡ run → IsRunOf (done ++ (row ++ others)) run
closed start at done row others run ends free begins begun is some here = subst (λ (r : CellRange). IsRunOf (done ++ (row ++ others)) r) here (record {
  row = row;
  maximal = record { before = done; after = others; whole = refl; no_more_before = ends; no_more_after = begins; start_is = begun; end_is = is };
  free = free;
  some = some;
})

Contains-cases : {X : Type 0} (y : X) (ys : List X) (x : X) → Contains (y ∷ ys) x → (y ≡ x) ⊎ Contains ys x
Contains-cases y ys x (zero, below, is) = inl is
Contains-cases y ys x (suc k, below, is) = inr (k, omega arith, is)

run-cases : (start end : ℕ) (others : List CellRange) (run : CellRange) → Contains (add_run start end others) run → ((start < end) × (record { start = start; end = end } ≡ run)) ⊎ Contains others run
run-cases start end others run has = elim (cases_Bool (nat_lt start end)) [
  | inl some ↦ ⊎_elim (λ here. inl (ltb-true start end some, here)) (λ there. inr there) (Contains-cases (record { start = start; end = end }) others run (rw some at has))
  | inr none ↦ inr (rw none at has)
]

maximal : (start at : ℕ) (done row cells : List (List ℕ)) (run : CellRange) → EndsWithComponent done → All IsFree row → length (concat done) ≡ start → start + length (concat row) ≡ at
    → Contains (runs_from start at cells) run → IsRunOf (done ++ (row ++ cells)) run
unfolding runs_from
maximal start at done row [] run ends free begun is has = elim (run-cases start at [] run has) [
  | inl here ↦ closed start at done row [] run ends free tt begun is here.0 here.1
  | inr there ↦ absurd (omega (arith, there.1))
]
maximal start at done row (c ∷ cells) run ends free begun is has =
    let next = at + length c in
    elim (cases_Bool (is_free (head_of c))) [
      | inl e ↦ simp append_assoc at (maximal start next done (row ++ c ∷ []) cells run ends (All-push IsFree row c free e) begun (omega (arith, length-concat-push row c)) (rw e at has))
      | inr e ↦ elim (run-cases start at (runs_from next next cells) run (rw e at has)) [
        | inl here ↦ closed start at done row (c ∷ cells) run ends free e begun is here.0 here.1
        | inr there ↦ simp append_assoc at (maximal next next ((done ++ row) ++ c ∷ []) [] cells run (ends_push (done ++ row) c e) (All-nil IsFree) (omega (arith, length-placed done row c)) (omega arith) there)
      ]
    ]

pub run_maximal : (x : List ℕ) (run : CellRange) → Contains (runs x) run → IsRunOf (cut x).cells run
run_maximal x run has = maximal 0 0 [] [] _ run tt (All-nil IsFree) refl refl has

-- ---- each such sequence is a run

later_is : (run : CellRange) (others : List CellRange) (start end : ℕ) → Contains others run → Contains (add_run start end others) run
later_is run others start end has = cond_both (nat_lt start end) _ others (λ (l : List CellRange). Contains l run) (λ some. (suc has.0, omega (arith, has.1), has.2)) (λ none. has)

here_is : (start end : ℕ) (others : List CellRange) → start < end → Contains (add_run start end others) (record { start = start; end = end })
here_is start end others some = rw (lt-ltb start end some) (0, omega arith, refl)

-- free cells change only the offset
over_free : (start at : ℕ) (row cells : List (List ℕ)) → All IsFree row → runs_from start at (row ++ cells) ≡ runs_from start (at + length (concat row)) cells
unfolding runs_from
over_free start at [] cells free = ap (λ n. runs_from start n cells) (let e : at ≡ at + 0 = omega arith in e)
over_free start at (c ∷ row) cells free = rw (All-head IsFree c row free)
    (over_free start (at + length c) row cells (All-tail IsFree c row free) ∙ ap (λ n. runs_from start n cells) (row_place at c row))

-- a run from here on
from_here : (start : ℕ) (row after : List (List ℕ)) (end : ℕ) → All IsFree row → BeginsWithComponent after → start + length (concat row) ≡ end → start < end
    → Contains (runs_from start start (row ++ after)) (record { start = start; end = end })
unfolding runs_from
from_here start row after end free begins is some =
    subst (λ (l : List CellRange). Contains l (record { start = start; end = end })) (sym (over_free start start row after free ∙ ap (λ n. runs_from start n after) is)) (by_after after begins)
  where
    by_after : (others : List (List ℕ)) → BeginsWithComponent others → Contains (runs_from start end others) (record { start = start; end = end })
    by_after [] b = here_is start end [] some
    by_after (c ∷ others) b = rw b (here_is start end (runs_from (end + length c) (end + length c) others) some)

-- after earlier cells
there : (start at : ℕ) (before row after : List (List ℕ)) (run : CellRange) → (before ≡ [] → start ≡ at) → EndsWithComponent before → All IsFree row → BeginsWithComponent after
    → at + length (concat before) ≡ run.start → run.start + length (concat row) ≡ run.end → run.start < run.end → Contains (runs_from start at (before ++ (row ++ after))) run
unfolding runs_from
there start at [] row after run fresh ends free begins begun is some =
    let here : at ≡ run.start = omega (arith, begun) in
    rw (fresh refl, here) (from_here run.start row after run.end free begins is some)
there start at (c ∷ before) row after run fresh ends free begins begun is some =
    let next = at + length c in
    let begun_next : next + length (concat before) ≡ run.start = omega (arith, begun, length-append c (concat before)) in
    let later : List CellRange = runs_from next next (before ++ (row ++ after)) in
    elim (cases_Bool (is_free (head_of c))) [
      | inl e ↦ rw e (there start next before row after run (λ none. absurd (not_alone c before e ends none)) (ends_after c before ends) free begins begun_next is some)
      | inr e ↦ rw e (later_is run later start at (there next next before row after run (λ none. refl) (ends_after c before ends) free begins begun_next is some))
    ]

pub runs_exact : (x : List ℕ) (run : CellRange) → Contains (runs x) run ↔ IsRunOf (cut x).cells run
runs_exact x run = (
  run_maximal x run,
  λ is.
      subst (λ (cs : List (List ℕ)). Contains (runs_from 0 0 cs) run) (sym is.maximal.whole)
      (there 0 0 is.maximal.before is.row is.maximal.after run (λ none. refl) is.maximal.no_more_before is.free is.maximal.no_more_after (omega (arith, is.maximal.start_is)) is.maximal.end_is is.some),
)

-- ---- runs in order, with a cell between neighbours

abbrev Apart : CellRange → CellRange → Type 0
Apart a b = a.end < b.start

none_apart : AllPairs Apart []
none_apart = λ i j d first second. absurd (omega (arith, second))

abbrev BeginsAfter : ℕ → List CellRange → Type 0
BeginsAfter low runs = All (λ (r : CellRange). low < r.start) runs

-- a range, unless empty, and later ranges
add_after : (low start end : ℕ) (others : List CellRange) → low < start → BeginsAfter low others → BeginsAfter low (add_run start end others)
add_after low start end others here rest = cond_both (nat_lt start end) _ others (BeginsAfter low) (λ e. All-cons (λ (r : CellRange). low < r.start) _ others here rest) (λ e. rest)

add_apart : (start end : ℕ) (others : List CellRange) → BeginsAfter end others → AllPairs Apart others → AllPairs Apart (add_run start end others)
add_apart start end others later rest = cond_both (nat_lt start end) _ others (AllPairs Apart) (λ e. AllPairs-cons Apart _ others later rest) (λ e. rest)

begin_after : (low start at : ℕ) (cells : List (List ℕ)) → low < start → start ≤ at → BeginsAfter low (runs_from start at cells)
unfolding runs_from
begin_after low start at [] before order = add_after low start at [] before (All-nil (λ (r : CellRange). low < r.start))
begin_after low start at (c ∷ cells) before order =
    let next = at + length c in
    cond_both (is_free (head_of c)) (runs_from start next cells) (add_run start at (runs_from next next cells)) (BeginsAfter low)
    (λ e. begin_after low start next cells before (omega (arith, order)))
    (λ e. add_after low start at (runs_from next next cells) before (begin_after low next next cells (omega (arith, before, order)) (omega arith)))

apart : (start at : ℕ) (cells : List (List ℕ)) → start ≤ at → All IsCell cells → AllPairs Apart (runs_from start at cells)
unfolding runs_from
apart start at [] order each = add_apart start at [] (All-nil (λ (r : CellRange). at < r.start)) none_apart
apart start at (c ∷ cells) order each =
    let next = at + length c in
    let some : 64 ≤ length c = (cell_span c (length c) (All-head IsCell c cells each)).positive in
    let rest : All IsCell cells = All-tail IsCell c cells each in
    cond_both (is_free (head_of c)) (runs_from start next cells) (add_run start at (runs_from next next cells)) (AllPairs Apart)
    (λ e. apart start next cells (omega (arith, order)) rest)
    (λ e. add_apart start at (runs_from next next cells) (begin_after at next next cells (omega (arith, some)) (omega arith)) (apart next next cells (omega arith) rest))

pub runs_ascend : (x : List ℕ) → length x % 64 ≡ 0 → AllPairs (λ (a b : CellRange). a.end < b.start) (runs x)
runs_ascend x aligned = apart 0 0 (cut x).cells (omega arith) (cut_exists x aligned).1.each

-- ---- an empty entry's header over a run keeps the components

pub record IsRun (x : List ℕ) (run : CellRange) : Type 0 where
  pub cells : CellsBetween x run.start run.end
  pub free : AllFree cells.group
  pub range : IsCellRange run (length x)

pub run_of : (x : List ℕ) (run : CellRange) → length x % 64 ≡ 0 → Contains (runs x) run → IsRun x run
run_of x run aligned has =
    let r = run_maximal x run has in
    let cells : CellsBetween x run.start run.end = between x r.row run aligned r.maximal in
    record { cells = cells; free = r.free; range = group_range x run cells r.some }

pub emptied_runs : (x : List ℕ) (run : CellRange) (y : List ℕ) → length x % 64 ≡ 0 → length x < 2 ^ 32 → Contains (runs x) run → IsEmptied run run.end x y → SameCells y x
emptied_runs x run y aligned small has is =
    let r = run_of x run aligned has in
    let g = r.cells in
    record {
      components =
          emptied-components x run r.range y is g small
          ∙ sym (group-components x run.start run.end g ∙ rw (components-free run.start g.group r.free, append-nil (components_from 0 g.before)) refl);
      end = emptied-end x run r.range y is g small;
    }
