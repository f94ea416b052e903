-- The components of a region, cell by cell.
use Rattle.std.proofs.Common.{◌≡◌, ℕ, ◌+◌, ◌/◌, ◌%◌, ◌≤◌, IsTrue, Bool, true, false, cond, List, [], ◌∷◌, ◌++◌, length, map, Ok, Err, None, refl, sym, ap, ◌∙◌, arith, append_assoc}
use Rattle.std.specs.Prelude.{IsErrOf, not}
use Rattle.std.proofs.lemmas.List.{append-nil}
use Rattle.flash_format.specs.Head.{head_of, is_free}
use Rattle.flash_format.specs.Cut.{Cut}
use Rattle.flash_format.specs.Components.{Component, component_at, components_from}
use Rattle.flash_device.specs.Pages.{Pages, HasRead}
use Rattle.flash_device.specs.Regions.{Range, LiesOn, bytes_in}
use Rattle.cbfs_walk.specs.Cells.{IsCellIn}
use Rattle.cbfs_walk.specs.Walks.{reads_over, StepResult, Walking, answer_at}
use Rattle.cbfs_walk.specs.CellReadings.{reading_of, ReadsCells, by_answer}
use Rattle.cbfs_walk.specs.declared.cell.Cell.{Cell}
use Rattle.cbfs_walk.specs.declared.walk.Step.TheVariants as steps
use Rattle.cbfs_walk.specs.declared.walk.WalkFault.TheVariants as walk
use Rattle.cbfs_walk.proofs.Shapes.{shaped_step}
use Rattle.check_findings.proofs.RegionLemmas.WalkParts.{Answers, Reached, reached_answer, reached_more, reached_start}
use Rattle.check_findings.specs.Lists.{only_if}
use Rattle.board_findings.specs.Components.{cell_placed, placed, placed_in}
use Rattle.board_findings.specs.declared.components.Placed.{Placed}

-- ---- the components from an offset on

rest_read : ℕ → Cut → List Placed
rest_read at k = map placed (components_from at k.cells)

rest_cell : List ℕ → Cell → List Placed → List Placed
rest_cell bytes c later = cell_placed c ++ later

law : ReadsCells rest_read rest_cell
unfolding rest_read rest_cell components_from
law at bytes k = go (is_free (head_of bytes)) (components_from (at + length bytes) k.cells)
  where
    go : (free : Bool) (others : List Component) → map placed (cond free others (component_at at bytes ∷ others)) ≡ only_if (not free) (placed (component_at at bytes)) ++ map placed others
    go true others = refl
    go false others = refl

pub placed_from : List ℕ → ℕ → List Placed
placed_from x at = reading_of (λ fault. []) rest_read x at

placed_whole : (x : List ℕ) → placed_in x ≡ placed_from x 0
unfolding placed_in placed_from reading_of rest_read
placed_whole x = refl

-- the same by the result of a walk
placed_by : List ℕ → StepResult → List Placed
placed_by x answer = by_answer (λ fault. []) rest_read rest_cell x answer

placed_step : (x : List ℕ) (at : ℕ) → at ≤ length x → at % 64 ≡ 0 → placed_from x at ≡ placed_by x (answer_at x at)
unfolding placed_from placed_by
placed_step x at inside aligned = shaped_step (λ fault. []) rest_read rest_cell law x at inside aligned

abbrev pub IsNoCell : StepResult → Type 0
IsNoCell a = (c : Cell) → a ≡ Ok (steps.Cell c) → ⊥

placed_end : (x : List ℕ) (a : StepResult) → IsNoCell a → placed_by x a ≡ []
unfolding placed_by rest_read components_from
placed_end x (Ok (steps.Cell c)) none = absurd (none c refl)
placed_end x (Ok step) none = refl
placed_end x (Err (walk.Damaged at kind)) none = refl
placed_end x (Err fault) none = refl

-- ---- the loop

-- the listing has reached the walk's offset
pub record PlacedSoFar {F : Type 0} (r : Range) (w : Walking) (all : List Placed) (old now : Pages F) : Type 0 where
  pub reached : Reached r w (w.at / 60) old now
  pub so_far : IsTrue old.device.honest → all ++ placed_from (bytes_in r old.device.content) w.at ≡ placed_in (bytes_in r old.device.content)

pub placing_start : {F : Type 0} (r : Range) (all : List Placed) (old : Pages F) → all ≡ [] → PlacedSoFar r (record { region = r; at = 0; steps = 0; ended = None }) all old old
placing_start r all old none = record {
  reached = reached_start r (0 / 60) old;
  so_far = λ h. rw none (sym (placed_whole (bytes_in r old.device.content)));
}

module _ {F : Type 0} (r : Range) (w : Walking) (all : List Placed) (old now : Pages F) (lies : LiesOn r old.device) (i : PlacedSoFar r w all old now) where
  abbrev x : List ℕ
  x = bytes_in r old.device.content

  answered : (a : StepResult) → (IsErrOf a walk.Device → ⊥) → Answers w now a → IsTrue old.device.honest → all ++ placed_by x a ≡ placed_in x
  answered a other answer h =
      let here = reached_answer i.reached a lies answer other h in
      let step : placed_by x a ≡ placed_from x w.at = ap (λ (b : StepResult). placed_by x b) here.0 ∙ sym (placed_step x w.at here.1 i.reached.aligned) in
      ap (λ (l : List Placed). all ++ l) step ∙ i.so_far h

  -- a cell is listed
  pub placing_more : (c : Cell) (v : Walking) (next : List Placed) (new : Pages F) (n : ℕ) → IsCellIn w.region.size c × (c.at ≡ w.at)
      → HasRead n 0 now new → n ≡ reads_over c.span
      → Answers w now (Ok (steps.Cell c))
      → v ≡ record w { at = w.at + c.span; steps = w.steps + 1 }
      → next ≡ all ++ cell_placed c
      → PlacedSoFar r v next old new
  unfolding placed_by placed_from rest_cell
  placing_more c v next new n given reads few answer moved is = rw moved (record {
    reached = reached_more i.reached c n ((w.at + c.span) / 60) new given reads (omega (arith, few, given.0.positive, given.0.whole, i.reached.aligned));
    so_far = λ h.
        ap (λ (l : List Placed). l ++ placed_from x (w.at + c.span)) is
        ∙ append_assoc all (cell_placed c) (placed_from x (w.at + c.span))
        ∙ ap (λ p. all ++ (cell_placed c ++ placed_from x (p + c.span))) (sym given.1)
        ∙ answered (Ok (steps.Cell c)) (λ e. absurd cc) answer h;
  })

  -- the walk ended
  pub placing_all : (a : StepResult) → IsNoCell a → (IsErrOf a walk.Device → ⊥) → Answers w now a
      → IsTrue old.device.honest → all ≡ placed_in x
  placing_all a none other answer h =
      sym (append-nil all) ∙ ap (λ (l : List Placed). all ++ l) (sym (placed_end x a none)) ∙ answered a other answer h
