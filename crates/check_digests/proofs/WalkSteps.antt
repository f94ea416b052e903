-- The digests of the components of a region, cell by cell.
use Rattle.std.proofs.Common.{◌≡◌, ℕ, ◌+◌, ◌/◌, ◌%◌, ◌≤◌, IsTrue, Bool, true, false, cond, List, [], ◌∷◌, ◌++◌, length, map, None, Ok, Err, refl, sym, ap, ◌∙◌, arith, append_assoc}
use Rattle.std.specs.Prelude.{IsErrOf}
use Rattle.std.proofs.lemmas.List.{append-nil}
use Rattle.flash_format.specs.Head.{head_of, is_free}
use Rattle.flash_format.specs.Cut.{Cut}
use Rattle.flash_format.specs.Components.{component_at, components_from}
use Rattle.flash_device.specs.Pages.{Pages, HasRead, OnHonestIn}
use Rattle.flash_device.proofs.WindowLemmas.{HasRead-then}
use Rattle.flash_device.specs.Regions.{Range, LiesOn, bytes_in}
use Rattle.flash_device.proofs.DeviceLemmas.{honest_still}
use Rattle.cbfs_walk.specs.Cells.{IsCellIn, cell_in}
use Rattle.cbfs_walk.specs.Walks.{reads_over, StepResult, Walking, answer_at, StandsIn}
use Rattle.cbfs_walk.specs.CellReadings.{reading_of, ReadsCells, by_answer}
use Rattle.cbfs_walk.specs.declared.cell.Cell.{Cell}
use Rattle.cbfs_walk.specs.declared.walk.Step.TheVariants as steps
use Rattle.cbfs_walk.specs.declared.walk.WalkFault.TheVariants as walk
use Rattle.cbfs_walk.proofs.Shapes.{shaped_step}
use Rattle.check_findings.proofs.RegionLemmas.WalkParts.{Answers, Reached, reached_answer, reached_more, reached_start}
use Rattle.check_digests.specs.Digests.{SeenDigests, cell_digests, digests_of, region_digests}

-- ---- the digests from an offset on

rest_read : ℕ → Cut → List SeenDigests
rest_read at k = map digests_of (components_from at k.cells)

rest_cell : List ℕ → Cell → List SeenDigests → List SeenDigests
rest_cell bytes c later = cell_digests c.at bytes ++ later

law : ReadsCells rest_read rest_cell
unfolding rest_read rest_cell components_from
law at bytes k = go (is_free (head_of bytes)) (components_from (at + length bytes) k.cells)
  where
    go : (free : Bool) (others : _) → map digests_of (cond free others (component_at at bytes ∷ others)) ≡ cond free [] (digests_of (component_at at bytes) ∷ []) ++ map digests_of others
    go true others = refl
    go false others = refl

pub digests_from : List ℕ → ℕ → List SeenDigests
digests_from x at = reading_of (λ fault. []) rest_read x at

digests_whole : (x : List ℕ) → region_digests x ≡ digests_from x 0
unfolding region_digests digests_from reading_of rest_read
digests_whole x = refl

-- the same by the result of a walk
digests_by : List ℕ → StepResult → List SeenDigests
digests_by x answer = by_answer (λ fault. []) rest_read rest_cell x answer

digests_step : (x : List ℕ) (at : ℕ) → at ≤ length x → at % 64 ≡ 0 → digests_from x at ≡ digests_by x (answer_at x at)
unfolding digests_from digests_by
digests_step x at inside aligned = shaped_step (λ fault. []) rest_read rest_cell law x at inside aligned

abbrev pub IsNoCell : StepResult → Type 0
IsNoCell a = (c : Cell) → a ≡ Ok (steps.Cell c) → ⊥

digests_end : (x : List ℕ) (a : StepResult) → IsNoCell a → digests_by x a ≡ []
unfolding digests_by rest_read components_from
digests_end x (Ok (steps.Cell c)) none = absurd (none c refl)
digests_end x (Ok step) none = refl
digests_end x (Err (walk.Damaged at kind)) none = refl
digests_end x (Err fault) none = refl

-- ---- the loop

-- the walk has reached its offset, with the digests of the components before it
pub record DigestsSoFar {F : Type 0} (r : Range) (w : Walking) (before all : List SeenDigests) (old now : Pages F) : Type 0 where
  pub reached : Reached r w (w.at / 20) old now
  pub so_far : OnHonestIn old.device r (λ x. all ++ digests_from x w.at ≡ before ++ region_digests x)

pub digests_start : {F : Type 0} (r : Range) (all : List SeenDigests) (old : Pages F) → DigestsSoFar r (record { region = r; at = 0; steps = 0; ended = None }) all all old old
digests_start r all old = record {
  reached = reached_start r (0 / 20) old;
  so_far = λ h. ap (λ (l : List SeenDigests). all ++ l) (sym (digests_whole (bytes_in r old.device.content)));
}

module _ {F : Type 0} (r : Range) (w : Walking) (before all : List SeenDigests) (old now : Pages F) (lies : LiesOn r old.device) (i : DigestsSoFar r w before all old now) where
  abbrev x : List ℕ
  x = bytes_in r old.device.content

  answered : (a : StepResult) → (IsErrOf a walk.Device → ⊥) → Answers w now a → IsTrue old.device.honest → (a ≡ answer_at x w.at) × (all ++ digests_by x a ≡ before ++ region_digests x)
  answered a other answer h =
      let here = reached_answer i.reached a lies answer other h in
      let step : digests_by x a ≡ digests_from x w.at = ap (λ (b : StepResult). digests_by x b) here.0 ∙ sym (digests_step x w.at here.1 i.reached.aligned) in
      (here.0, ap (λ (l : List SeenDigests). all ++ l) step ∙ i.so_far h)

  -- another cell
  pub digests_more : (c : Cell) (v : Walking) (next : List SeenDigests) (mid new : Pages F) (n m : ℕ) → IsCellIn w.region.size c × (c.at ≡ w.at)
      → HasRead n 0 now mid → n ≡ reads_over c.span → HasRead m 0 mid new → m ≡ 2 + c.span / 1920
      → Answers w now (Ok (steps.Cell c))
      → v ≡ record w { at = w.at + c.span; steps = w.steps + 1 }
      → OnHonestIn mid.device r (λ y. StandsIn y c → next ≡ all ++ cell_digests c.at (cell_in y c))
      → DigestsSoFar r v before next old new
  unfolding digests_by digests_from rest_cell
  digests_more c v next mid new n m given reads few more fewer answer moved pushed = rw moved (record {
    reached = reached_more i.reached c (n + m) ((w.at + c.span) / 20) new given (HasRead-then n m 0 now mid new reads more) (omega (arith, few, fewer, given.0.positive, given.0.whole, i.reached.aligned));
    so_far = λ h.
        let k = honest_still i.reached.read.device.calls.same_honesty h in
        let same : mid.device.content ≡ old.device.content = reads.device.unchanged k ∙ i.reached.read.device.unchanged h in
        let told = answered (Ok (steps.Cell c)) (λ e. absurd cc) answer h in
        let stands : StandsIn x c = ap (λ p. answer_at x p) given.1 ∙ sym told.0 in
        let its = cell_digests c.at (cell_in x c) in
        let here : next ≡ all ++ its = (rw same at (pushed (honest_still reads.device.calls.same_honesty k))) stands in
        ap (λ (l : List SeenDigests). l ++ digests_from x (w.at + c.span)) here
        ∙ append_assoc all its (digests_from x (w.at + c.span))
        ∙ ap (λ p. all ++ (its ++ digests_from x (p + c.span))) (sym given.1)
        ∙ told.1;
  })

  -- the walk ended
  pub digests_ended : (a : StepResult) → IsNoCell a → (IsErrOf a walk.Device → ⊥) → Answers w now a → OnHonestIn old.device r (λ y. all ≡ before ++ region_digests y)
  digests_ended a none other answer h =
      sym (append-nil all) ∙ ap (λ (l : List SeenDigests). all ++ l) (sym (digests_end x a none)) ∙ (answered a other answer h).1
