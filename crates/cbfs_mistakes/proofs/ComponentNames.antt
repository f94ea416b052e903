-- The names of a region's components, cell by cell.
use Rattle.std.proofs.Common.{None, ◌≡◌, ℕ, ◌+◌, ◌/◌, ◌%◌, ◌≤◌, IsTrue, Bool, true, false, cond, List, [], ◌∷◌, ◌++◌, length, map, Ok, Err, refl, sym, ap, ◌∙◌, arith, append_assoc}
use Rattle.std.specs.Prelude.{IsErrOf}
use Rattle.std.specs.Global.{Vec}
use Rattle.std.proofs.lemmas.List.{append-nil}
use Rattle.flash_format.specs.Head.{head_of, is_free}
use Rattle.flash_format.specs.Cut.{Cut}
use Rattle.flash_format.specs.Components.{Component, cell_name, component_at, components_from}
use Rattle.flash_device.specs.Pages.{Pages, HasRead, OnHonestIn}
use Rattle.flash_device.proofs.WindowLemmas.{HasRead-then}
use Rattle.flash_device.specs.Regions.{Range, LiesOn, bytes_in}
use Rattle.flash_device.proofs.DeviceLemmas.{honest_still}
use Rattle.cbfs_walk.specs.Cells.{IsCellIn, cell_in}
use Rattle.cbfs_walk.specs.Walks.{reads_over, StepResult, Walking, answer_at, StandsIn}
use Rattle.cbfs_walk.specs.CellReadings.{reading_of, ReadsCells, by_answer}
use Rattle.cbfs_walk.specs.declared.cell.Cell.{Cell}
use Rattle.cbfs_walk.specs.declared.walk.Step.TheVariants as steps
use Rattle.cbfs_walk.specs.declared.walk.WalkFault.TheVariants as walk
use Rattle.cbfs_walk.proofs.Shapes.{shaped_step}
use Rattle.cbfs_mistakes.specs.Components.{component_names}
use Rattle.cbfs_mistakes.proofs.AreaNames.{names_of}
use Rattle.cbfs_mistakes.proofs.WalkParts.{Answers, Reached, reached_answer, reached_more, reached_start}

-- the name of the component of a cell with these bytes; none for an empty entry
abbrev pub cell_names : List ℕ → Cell → List (List ℕ)
cell_names bytes c = cond (is_free c.head) [] (cell_name bytes ∷ [])

-- ---- the names from an offset on

rest_read : ℕ → Cut → List (List ℕ)
rest_read at k = map (λ (c : Component). c.name) (components_from at k.cells)

rest_cell : List ℕ → Cell → List (List ℕ) → List (List ℕ)
rest_cell bytes c later = cell_names bytes c ++ later

law : ReadsCells rest_read rest_cell
unfolding rest_read rest_cell components_from
law at bytes k = go (is_free (head_of bytes)) (components_from (at + length bytes) k.cells)
  where
    go : (free : Bool) (others : List Component) → map (λ (c : Component). c.name) (cond free others (component_at at bytes ∷ others)) ≡ cond free [] (cell_name bytes ∷ []) ++ map (λ (c : Component). c.name) others
    go true others = refl
    go false others = refl

pub names_from : List ℕ → ℕ → List (List ℕ)
names_from x at = reading_of (λ fault. []) rest_read x at

names_whole : (x : List ℕ) → component_names x ≡ names_from x 0
unfolding component_names names_from reading_of rest_read
names_whole x = refl

-- the same by the result of a walk
names_by : List ℕ → StepResult → List (List ℕ)
names_by x answer = by_answer (λ fault. []) rest_read rest_cell x answer

names_step : (x : List ℕ) (at : ℕ) → at ≤ length x → at % 64 ≡ 0 → names_from x at ≡ names_by x (answer_at x at)
unfolding names_from names_by
names_step x at inside aligned = shaped_step (λ fault. []) rest_read rest_cell law x at inside aligned

abbrev pub IsNoCell : StepResult → Type 0
IsNoCell a = (c : Cell) → a ≡ Ok (steps.Cell c) → ⊥

names_end : (x : List ℕ) (a : StepResult) → IsNoCell a → names_by x a ≡ []
unfolding names_by rest_read components_from
names_end x (Ok (steps.Cell c)) none = absurd (none c refl)
names_end x (Ok step) none = refl
names_end x (Err (walk.Damaged at kind)) none = refl
names_end x (Err fault) none = refl

-- ---- the loop

-- the names up to the walk's offset
pub record NamedSoFar {F : Type 0} (r : Range) (w : Walking) (names : List (Vec ℕ)) (old now : Pages F) : Type 0 where
  pub reached : Reached r w (w.at / 24) old now
  pub so_far : IsTrue old.device.honest → names_of names ++ names_from (bytes_in r old.device.content) w.at ≡ component_names (bytes_in r old.device.content)

pub naming_start : {F : Type 0} (r : Range) (names : List (Vec ℕ)) (old : Pages F) → names ≡ [] → NamedSoFar r (record { region = r; at = 0; steps = 0; ended = None }) names old old
naming_start r names old none = record {
  reached = reached_start r (0 / 24) old;
  so_far = λ h. rw none (sym (names_whole (bytes_in r old.device.content)));
}

module _ {F : Type 0} (r : Range) (w : Walking) (names : List (Vec ℕ)) (old now : Pages F) (lies : LiesOn r old.device) (i : NamedSoFar r w names old now) where
  abbrev x : List ℕ
  x = bytes_in r old.device.content

  answered : (a : StepResult) → (IsErrOf a walk.Device → ⊥) → Answers w now a → IsTrue old.device.honest → (a ≡ answer_at x w.at) × (names_of names ++ names_by x a ≡ component_names x)
  answered a other answer h =
      let here = reached_answer i.reached a lies answer other h in
      let step : names_by x a ≡ names_from x w.at = ap (λ (b : StepResult). names_by x b) here.0 ∙ sym (names_step x w.at here.1 i.reached.aligned) in
      (here.0, ap (λ (l : List (List ℕ)). names_of names ++ l) step ∙ i.so_far h)

  -- a cell is listed
  pub naming_more : (c : Cell) (v : Walking) (next : List (Vec ℕ)) (mid new : Pages F) (n : ℕ) → IsCellIn w.region.size c × (c.at ≡ w.at)
      → HasRead n 0 now mid → n ≡ reads_over c.span → HasRead 1 0 mid new
      → Answers w now (Ok (steps.Cell c))
      → v ≡ record w { at = w.at + c.span; steps = w.steps + 1 }
      → OnHonestIn mid.device r (λ x. StandsIn x c → names_of next ≡ names_of names ++ cell_names (cell_in x c) c)
      → NamedSoFar r v next old new
  unfolding names_by names_from rest_cell
  naming_more c v next mid new n given reads few more answer moved listed = rw moved (record {
    reached = reached_more i.reached c (n + 1) ((w.at + c.span) / 24) new given (HasRead-then n 1 0 now mid new reads more) (omega (arith, few, given.0.positive, given.0.whole, i.reached.aligned));
    so_far = λ h.
        let k = honest_still i.reached.read.device.calls.same_honesty h in
        let same : mid.device.content ≡ old.device.content = reads.device.unchanged k ∙ i.reached.read.device.unchanged h in
        let told = answered (Ok (steps.Cell c)) (λ e. absurd cc) answer h in
        let stands : StandsIn x c = ap (λ p. answer_at x p) given.1 ∙ sym told.0 in
        let here : names_of next ≡ names_of names ++ cell_names (cell_in x c) c = (rw same at (listed (honest_still reads.device.calls.same_honesty k))) stands in
        ap (λ (l : List (List ℕ)). l ++ names_from x (w.at + c.span)) here
        ∙ append_assoc (names_of names) (cell_names (cell_in x c) c) (names_from x (w.at + c.span))
        ∙ ap (λ p. names_of names ++ (cell_names (cell_in x c) c ++ names_from x (p + c.span))) (sym given.1)
        ∙ told.1;
  })

  -- the walk ended
  pub naming_ends : (a : StepResult) → IsNoCell a → (IsErrOf a walk.Device → ⊥) → Answers w now a
      → OnHonestIn old.device r (λ x. names_of names ≡ component_names x)
  naming_ends a none other answer = λ h.
      sym (append-nil (names_of names)) ∙ ap (λ (l : List (List ℕ)). names_of names ++ l) (sym (names_end x a none)) ∙ (answered a other answer h).1
