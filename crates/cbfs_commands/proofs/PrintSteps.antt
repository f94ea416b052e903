-- The output of `print` from a position on.
use Rattle.std.proofs.lemmas.Grind.{common_steps}
use Rattle.std.proofs.Common.{◌≡◌, ℕ, ◌+◌, ◌/◌, ◌%◌, ◌-◌, ◌≤◌, ◌⊎◌, inl, inr, Bool, List, [], None, Ok, Err, refl, sym, ap, ◌∙◌, arith, subst}
use Rattle.std.specs.Prelude.{IsErrOf, if◌then◌else◌}
use Rattle.std.specs.Result.{IsErrAnd}
use Rattle.flash_device.specs.declared.sink.Sink.{Ghosts as SinkOf}
use Rattle.flash_device.specs.Device.{fault_count}
use Rattle.flash_device.specs.Pages.{Pages, HasRead, OnHonest, OnHonestIn}
use Rattle.flash_device.specs.Regions.{Range, LiesIn, LiesOn, bytes_in}
use Rattle.cbfs_walk.specs.Cells.{IsCellIn, cell_in}
use Rattle.cbfs_walk.specs.CellReadings.{reading_of, ReadsCells, by_answer}
use Rattle.cbfs_walk.specs.Walks.{Walking, GivesCell, answer_at, walk_after, reads_at}
use Rattle.cbfs_walk.specs.Walks as walks
use Rattle.cbfs_walk.specs.declared.cell.Cell.{Cell}
use Rattle.cbfs_walk.specs.declared.walk.Step.{Step}
use Rattle.cbfs_walk.specs.declared.walk.Step.TheVariants as steps
use Rattle.cbfs_walk.specs.declared.walk.WalkFault.{WalkFault}
use Rattle.cbfs_walk.specs.declared.walk.WalkFault.TheVariants as faults
use Rattle.cbfs_walk.proofs.Shapes.{shaped_step}
use Rattle.cbfs_requests.specs.declared.refusal.Refusal.{Refusal}
use Rattle.cbfs_requests.specs.declared.refusal.Refusal.TheVariants as refusals
use Rattle.cbfs_commands.specs.Outcomes.{print_cut, print_region, walk_refusal}
use Rattle.cbfs_requests.specs.Requests.{by_device}
use Rattle.cbfs_commands.specs.Rows.{rows_from, shown_cell}
use Rattle.cbfs_commands.specs.Outcomes.{CommandResult, HasOutput, Printout, shows, refuses}
use Rattle.cbfs_commands.proofs.OutputParts.{ToldSoFar, so_far-ends, so_far-more, text_then, printout-after, printout-none, printout-refusal, printout-stopped}
use Rattle.flash_device.proofs.DeviceLemmas.{length-bytes_in}

abbrev pub print_from : Bool → List ℕ → ℕ → Printout
print_from verbose x at = reading_of (λ fault. refuses (walk_refusal fault)) (print_cut verbose) x at

pub print_region-from : (verbose : Bool) (x : List ℕ) → print_region x verbose ≡ print_from verbose x 0
unfolding print_region reading_of
print_region-from verbose x = refl

abbrev each_row : Bool → List ℕ → Cell → Printout → Printout
each_row verbose c given t = text_then (shown_cell verbose given.at c) t

law : (verbose : Bool) → ReadsCells (print_cut verbose) (each_row verbose)
unfolding rows_from
law verbose at c k = refl

-- by the walk's result
abbrev print_by : Bool → List ℕ → walks.StepResult → Printout
print_by verbose x a = by_answer (λ fault. refuses (walk_refusal fault)) (print_cut verbose) (each_row verbose) x a

refused_by : (verbose : Bool) (x : List ℕ) (fault : WalkFault) → print_by verbose x (Err fault) ≡ refuses (walk_refusal fault)
unfolding rows_from
refused_by verbose x fault = grind (arith, common_steps)

-- the maximum number of calls for n bytes of a region
abbrev region_reads : Bool → ℕ → ℕ
region_reads verbose n = if verbose then n / 4 else n / 16

-- up to a cell's end
reads_with : (verbose : Bool) (at span end : ℕ) → at % 64 ≡ 0 → span % 64 ≡ 0 → 64 ≤ span → at + span ≤ end
    → region_reads verbose at + (1 + span / 3840 + (2 + span / 3840 + (if verbose then 1 + span / 8 + span / 3840 else 0))) ≤ region_reads verbose end
reads_with verbose at span end a s some inside = grind (arith, common_steps)

-- after the last cell
reads_left : (verbose : Bool) (at size : ℕ) → at ≤ size → region_reads verbose at + (1 + (size - at) / 3840) ≤ region_reads verbose size + 2
reads_left verbose at size inside = grind (arith, common_steps)

counted : (fault : WalkFault) → walks.by_device fault ≡ by_device (walk_refusal fault)
counted fault = grind (arith, common_steps)

blames_no_other : (fault : WalkFault) → (walk_refusal fault ≡ refusals.Output → ⊥) × (walk_refusal fault ≡ refusals.Source → ⊥)
blames_no_other fault = grind (arith, common_steps)

-- ---- the loop

-- a walk at a position, and the output of the earlier cells
pub record PrintedTo {F W : Type 0} (sink : SinkOf W) (verbose : Bool) (r : Range) (old now : Pages F) (before after : W) (w : Walking) : Type 0 where
  pub region : w.region ≡ r
  pub going : w.ended ≡ None
  pub inside : w.at ≤ r.size
  pub aligned : w.at % 64 ≡ 0
  pub printout : ToldSoFar sink (region_reads verbose w.at) (λ image. print_region (bytes_in r image) verbose) (λ image. print_from verbose (bytes_in r image) w.at) old now before after

module _ {F W : Type 0} {sink : SinkOf W} {verbose : Bool} {r : Range} {old now next : Pages F} {before after : W} {w : Walking}
    (p : PrintedTo sink verbose r old now before after w) (lies : LiesOn r old.device) (a : walks.StepResult)
    (read : HasRead (reads_at w.region.size w.at a) (fault_count walks.by_device a) now next)
    (answer : OnHonestIn now.device w.region (λ x. w.ended ≡ None → IsErrOf a faults.Device ⊎ (a ≡ answer_at x w.at))) where
  abbrev Printed : Pages F → W → CommandResult → Type 0
  Printed new out result = HasOutput sink (region_reads verbose r.size + 2) old new before out result (λ image. print_region (bytes_in r image) verbose)

  size : w.region.size ≡ r.size
  size = ap (λ (q : Range). q.size) p.region

  -- the remaining output
  rest : OnHonest now.device (λ image. IsErrOf a faults.Device ⊎ (print_from verbose (bytes_in r image) w.at ≡ print_by verbose (bytes_in r image) a))
  rest h = elim (answer h p.going) [
    | inl device ↦ inl device
    | inr is ↦ inr (
        let image : List ℕ = now.device.content in
        let x : List ℕ = bytes_in r image in
        let lies_now : LiesIn r image = omega (arith, lies.inside, p.printout.reads.device.calls.same_length) in
        let here : answer_at x w.at ≡ a = ap (λ (k : Range). answer_at (bytes_in k image) w.at) (sym p.region) ∙ sym is in
        shaped_step (λ fault. refuses (walk_refusal fault)) (print_cut verbose) (each_row verbose) (law verbose) x w.at (omega (arith, length-bytes_in r image lies_now, p.inside)) p.aligned
        ∙ ap (print_by verbose x) here)
  ]

  rest-step : (s : Step) → a ≡ Ok s → OnHonest now.device (λ image. print_from verbose (bytes_in r image) w.at ≡ print_by verbose (bytes_in r image) (Ok s))
  rest-step s is h = grind (arith, common_steps, rest)

  module _ (c : Cell) (is : a ≡ Ok (steps.Cell c)) (cell : GivesCell w.region.size w.at a) where
    abbrev few : ℕ
    few = 2 + c.span / 3840 + (if verbose then 1 + c.span / 8 + c.span / 3840 else 0)

    abbrev Shown : ℕ → Pages F → Pages F → W → CommandResult → Type 0
    Shown n from new out result = HasOutput sink n from new after out result (λ image. shows (shown_cell verbose c.at (cell_in (bytes_in r image) c)))

    given : IsCellIn w.region.size c × (c.at ≡ w.at)
    given = rw is at cell

    others : OnHonest now.device (λ image. print_from verbose (bytes_in r image) w.at ≡ text_then (shown_cell verbose c.at (cell_in (bytes_in r image) c)) (print_from verbose (bytes_in r image) (w.at + c.span)))
    others h = let image : List ℕ = now.device.content in rest-step (steps.Cell c) is h ∙ ap (λ q. text_then (shown_cell verbose c.at (cell_in (bytes_in r image) c)) (print_from verbose (bytes_in r image) (q + c.span))) given.1

    lines : {new : Pages F} {out : W} {result : CommandResult} → Shown few next new out result → Shown (1 + c.span / 3840 + few) now new out result
    lines printout = printout-after printout _ (rw is at read) (omega arith)

    pub printed-more : {new : Pages F} {out : W} → Shown few next new out (Ok tt) → (v : Walking) → v ≡ walk_after w a → PrintedTo sink verbose r old new before out v
    printed-more {new} {out} printout v is_moved = subst (λ (u : Walking). PrintedTo sink verbose r old new before out u) (sym (rw is at is_moved)) (record { region = p.region; going = p.going; inside = omega (arith, given.0.inside, given.1, size); aligned = omega (arith, p.aligned, given.0.whole); printout = so_far-more p.printout _ _ (lines printout) others (reads_with verbose w.at c.span (w.at + c.span) p.aligned given.0.whole given.0.positive (omega arith)) })

    pub printed-stops : {new : Pages F} {out : W} {refusal : Refusal} {result : CommandResult} → Shown few next new out (Err refusal) → IsErrAnd result (λ x. x ≡ refusal) → Printed new out result
    printed-stops printout stopped =
        so_far-ends p.printout _ (printout-stopped (λ image. print_from verbose (bytes_in r image) (w.at + c.span)) (lines printout) stopped) others
        (omega (arith, reads_with verbose w.at c.span r.size p.aligned given.0.whole given.0.positive (omega (arith, given.0.inside, given.1, size))))

  ends : (s : Step) → a ≡ Ok s → ((x : List ℕ) → print_by verbose x (Ok s) ≡ shows []) → HasRead (1 + (w.region.size - w.at) / 3840) 0 now next → Printed next after (Ok tt)
  ends s is none few =
      so_far-ends p.printout _ (printout-after (printout-none next after) (1 + (w.region.size - w.at) / 3840) few (omega arith)) (λ h. rest-step s is h ∙ none _)
      (omega (arith, reads_left verbose w.at r.size p.inside, size))

  pub printed-done : (s : Step) → a ≡ Ok s → ((c : Cell) → s ≡ steps.Cell c → ⊥) → Printed next after (Ok tt)
  unfolding rows_from
  printed-done s is not = grind (arith, common_steps, ends)

  pub printed-failed : (fault : WalkFault) → a ≡ Err fault → {result : CommandResult} → IsErrAnd result (λ x. x ≡ walk_refusal fault) → Printed next after result
  printed-failed fault is failed =
      let none = blames_no_other fault in
      so_far-ends p.printout _ (printout-refusal (λ image. print_from verbose (bytes_in r image) w.at) failed (rw (is, counted fault) at read) none.0 none.1 (λ h. elim (rw is at (rest h)) [
        | inl device ↦ inl (let same : fault ≡ faults.Device = cc in ap walk_refusal same)
        | inr e ↦ inr (e ∙ refused_by verbose (bytes_in r now.device.content) fault)
      ])) (λ h. refl) (omega (arith, reads_left verbose w.at r.size p.inside, size))
