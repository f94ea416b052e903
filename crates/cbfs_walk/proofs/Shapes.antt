-- A step of any cell-by-cell function.
use Rattle.std.proofs.Common.{◌≡◌, ℕ, ◌+◌, ◌%◌, ◌<◌, ◌≤◌, Bool, true, false, cond, ◌&&◌, List, length, drop, Some, None, Ok, Err, refl, sym, ap, ◌∙◌, arith, eqb, length-take, length-drop}
use Rattle.std.proofs.lemmas.Bool.{ne_eqb}
use Rattle.std.proofs.lemmas.Grind.{common_steps}
use Rattle.flash_format.specs.declared.head.Head.{Head}
use Rattle.flash_format.specs.Head.{head_of}
use Rattle.flash_format.specs.Entry.{Entry, absent, damaged, cell, entry}
use Rattle.flash_format.specs.Cut.{Cut, complete, ends, cut}
use Rattle.flash_format.proofs.CutSteps.{cell_span, cut_empty, cut_step}
use Rattle.flash_format.proofs.Fronts.{head_of-take}
use Rattle.std.specs.Option.{option_map_or}
use Rattle.flash_format.specs.Entry.{front}
use Rattle.std.specs.Prelude.{is_some}
use Rattle.std.specs.Prelude.{not}
use Rattle.cbfs_walk.specs.Shapes.{has_bad_size}
use Rattle.cbfs_walk.specs.Walks.{answer_at, answer_by}
use Rattle.cbfs_walk.specs.Cells.{cell_in}
use Rattle.cbfs_walk.specs.declared.cell.Cell.{Cell}
use Rattle.cbfs_walk.specs.declared.walk.Step.TheVariants as steps
use Rattle.cbfs_walk.specs.declared.walk.WalkFault.{WalkFault}
use Rattle.cbfs_walk.specs.declared.walk.WalkFault.TheVariants as walk
use Rattle.cbfs_walk.specs.CellReadings.{reading_of, ReadsCells, by_answer}
use Rattle.cbfs_walk.proofs.StepResults.{good_size}
use Rattle.cbfs_walk.proofs.CutLaws.{cut_at}
use Rattle.cbfs_walk.proofs.Parts.{range_is}

-- in a region of valid shape
past : {A : Type 0} (refuse : WalkFault → A) (read : ℕ → Cut → A) (x : List ℕ) (at : ℕ) → has_bad_size (length x) ≡ false → (eqb at 0 && not (is_some (front x))) ≡ false
    → reading_of refuse read x at ≡ read at (cut (drop at x))
unfolding reading_of
past refuse read x at good other = rw (good, other) refl

over_cell : {A : Type 0} (refuse : WalkFault → A) (read : ℕ → Cut → A) (each : List ℕ → Cell → A → A) → ReadsCells read each → (x : List ℕ) (at span : ℕ)
    → has_bad_size (length x) ≡ false → at % 64 ≡ 0 → at ≤ length x → 0 < length (drop at x) → entry (drop at x) ≡ cell span
    → read at (cut (drop at x)) ≡ each (cell_in x (record { at = at; head = head_of (drop at x); span = span })) (record { at = at; head = head_of (drop at x); span = span }) (reading_of refuse read x (at + span))
over_cell refuse read each law x at span good aligned inside some e =
    let c : Cell = record { at = at; head = head_of (drop at x); span = span } in
    let s = cell_span (drop at x) span e in
    let size : length x % 64 ≡ 0 = good_size (length x) (sym good) in
    let fits : span ≤ length (drop at x) = s.inside (omega (arith, length-drop at x, size, aligned)) in
    let len : length (cell_in x c) ≡ span = ap length (range_is x at span) ∙ omega (arith, length-take span (drop at x), fits) in
    let head : head_of (cell_in x c) ≡ head_of (drop at x) = ap head_of (range_is x at span) ∙ head_of-take (drop at x) span (omega (arith, s.positive)) in
    let some_more : eqb (at + span) 0 ≡ false = ne_eqb (at + span) 0 (λ z. omega (arith, z, s.positive)) in
    let later = past refuse read x (at + span) good (ap (λ b. b && not (is_some (front x))) some_more) in
    let f = λ (h : Head) (n : ℕ). each (cell_in x c) (record { at = at; head = h; span = n }) (read (at + n) (cut (drop (at + span) x))) in
    ap (read at) (cut_at x at span some e)
    ∙ law at (cell_in x c) (cut (drop (at + span) x))
    ∙ ap (λ h. f h (length (cell_in x c))) head
    ∙ ap (f (head_of (drop at x))) len
    ∙ ap (each (cell_in x c) c) (sym later)

pub shaped_step : {A : Type 0} (refuse : WalkFault → A) (read : ℕ → Cut → A) (each : List ℕ → Cell → A → A) → ReadsCells read each → (x : List ℕ) (at : ℕ) → at ≤ length x → at % 64 ≡ 0
    → reading_of refuse read x at ≡ by_answer refuse read each x (answer_at x at)
unfolding answer_at reading_of
shaped_step refuse read each law x at inside aligned = go (has_bad_size (length x)) (eqb at 0 && not (is_some (front x))) (eqb (length (drop at x)) 0) refl refl refl
  where
    by_entry : (e : Entry) → entry (drop at x) ≡ e → has_bad_size (length x) ≡ false → 0 < length (drop at x)
        → read at (cut (drop at x)) ≡ by_answer refuse read each x (answer_by (drop at x) at e)
    by_entry absent is good some = ap (read at) (cut_step (drop at x) absent some is)
    by_entry (damaged k) is good some = ap (read at) (cut_step (drop at x) (damaged k) some is)
    by_entry (cell span) is good some = over_cell refuse read each law x at span good aligned inside some is

    go : (b m n : Bool) → has_bad_size (length x) ≡ b → (eqb at 0 && not (is_some (front x))) ≡ m → eqb (length (drop at x)) 0 ≡ n
        → option_map_or refuse (cond b (Some walk.RegionShape) (cond m (Some walk.NotCbfs) None)) (read at (cut (drop at x)))
        ≡ by_answer refuse read each x (option_map_or (λ fault. Err fault) (cond b (Some walk.RegionShape) (cond m (Some walk.NotCbfs) None)) (cond n (Ok steps.End) (answer_by (drop at x) at (entry (drop at x)))))
    go true m n e z f = refl
    go false true n e z f = refl
    go false false true e z f =
        let none : length (drop at x) ≡ 0 = grind (arith, common_steps) in
        let here : at ≡ length x = omega (arith, length-drop at x, inside) in
        ap (read at) (cut_empty (drop at x) none) ∙ ap (λ n. read n (ends complete)) here
    go false false false e z f = by_entry (entry (drop at x)) refl e (grind (arith, common_steps))
