-- A walk's result at a position, by the entry.
use Rattle.std.proofs.Common.{◌≡◌, ℕ, ◌-◌, ◌%◌, ◌<◌, ◌≤◌, Some, true, false, ◌&&◌, ◌⊎◌, List, length, drop, Ok, Err, refl, sym, ap, ◌∙◌, arith, eqb, le_refl}
use Rattle.std.specs.Prelude.{IfOk, Option, None, is_some, not}
use Rattle.std.specs.Option.{option_map_or}
use Rattle.std.proofs.lemmas.Bool.{and_right}
use Rattle.std.proofs.lemmas.Grind.{common_steps}
use Rattle.flash_format.specs.declared.head.Head.{Head}
use Rattle.flash_format.specs.declared.head.DamageKind.{DamageKind}
use Rattle.flash_format.specs.Entry.{Entry, damaged, cell, entry, front}
use Rattle.flash_format.proofs.CutSteps.{front_some}
use Rattle.flash_device.specs.Device.{fault_count}
use Rattle.flash_device.specs.Pages.{Pages, HasRead}
use Rattle.flash_device.specs.Regions.{Range}
use Rattle.flash_device.proofs.WindowLemmas.{HasRead-within}
use Rattle.cbfs_walk.specs.declared.cell.Cell.{Cell}
use Rattle.cbfs_walk.specs.Cells.{PassesChecks, content_start}
use Rattle.cbfs_walk.specs.Walks.{Passes, reads_over, StepResult, Walking, by_device, GivesCell, walk_after, answer_by, answer_at, reads_at}
use Rattle.cbfs_walk.proofs.Checks.{checks_give}
use Rattle.cbfs_walk.proofs.ReadSequences.{Passes-then}
use Rattle.cbfs_walk.specs.Shapes.{has_bad_size}
use Rattle.cbfs_walk.specs.declared.walk.Step.{Step}
use Rattle.cbfs_walk.specs.declared.walk.Step.TheVariants as steps
use Rattle.cbfs_walk.specs.declared.walk.WalkFault.TheVariants as faults

pub good_size : (size : ℕ) → false ≡ has_bad_size size → size % 64 ≡ 0
good_size size e = grind (arith, common_steps)

pub answer_shape : (x : List ℕ) (at size : ℕ) → length x ≡ size → true ≡ has_bad_size size → Err faults.RegionShape ≡ answer_at x at
unfolding answer_at
answer_shape x at size len bad = rw (len, ← bad) refl

pub answer_end : (x : List ℕ) (at size : ℕ) → length x ≡ size → false ≡ has_bad_size size → at ≡ size → Ok steps.End ≡ answer_at x at
unfolding answer_at
answer_end x at size len good end = grind (arith, common_steps)

pub answer_entry : (x : List ℕ) (at size : ℕ) (e : Entry) → length x ≡ size → false ≡ has_bad_size size → at < size → e ≡ entry (drop at x) → (eqb at 0 && not (is_some (front (drop at x)))) ≡ false
    → answer_by (drop at x) at e ≡ answer_at x at
unfolding answer_at
answer_entry x at size e len good inside is other = grind (arith, common_steps)

pub answer_absent : (x : List ℕ) (at size : ℕ) → length x ≡ size → false ≡ has_bad_size size → None ≡ front (drop at x) → at ≡ 0 → Err faults.NotCbfs ≡ answer_at x at
unfolding answer_at
answer_absent x at size len good is first = grind (arith, common_steps)

-- ---- checked heads

-- by the first failed check after the checks of the head
abbrev pub step_of : Cell → Option DamageKind → StepResult
step_of c None = Ok (steps.Cell c)
step_of c (Some kind) = Err (faults.Damaged c.at kind)

pub answer_checked : (x : List ℕ) (size : ℕ) (c : Cell) (damage : Option DamageKind) → length x ≡ size → false ≡ has_bad_size size → c.at < size → Some c.head ≡ front (drop c.at x)
    → (front (drop c.at x) ≡ Some c.head → option_map_or damaged damage (cell c.span) ≡ entry (drop c.at x)) → step_of c damage ≡ answer_at x c.at
answer_checked x size c damage len good inside head told = go damage ∙ answer_entry x c.at size _ len good inside (told (sym head)) (and_right (eqb c.at 0) _ (ap (λ (o : Option Head). not (is_some o)) (sym head)))
  where
    go : (d : Option DamageKind) → step_of c d ≡ answer_by (drop c.at x) c.at (option_map_or damaged d (cell c.span))
    go None = ap (λ (h : Head). Ok (steps.Cell (record { at = c.at; head = h; span = c.span }))) (front_some (drop c.at x) c.head (sym head)).2
    go (Some kind) = refl

pub cell_reads : {F : Type 0} (r : Range) (c : Cell) (old mid new : Pages F) (a : StepResult) → PassesChecks r.size c → IfOk a (λ step. step ≡ steps.Cell c)
    → Passes r c.at c.at 0 old mid → Passes r c.at (content_start c) (fault_count by_device a) mid new → HasRead (reads_at r.size c.at a) (fault_count by_device a) old new
cell_reads r c old mid new (Ok step) is told first second =
    let k = checks_give (r.size - c.at) c.head c.span is in
    rw told (HasRead-within _ (reads_over c.span) 0 old new (omega (arith, k.fits)) (Passes-then first second (le_refl c.at) (le_refl c.at) (le_refl (content_start c))).read)
cell_reads r c old mid new (Err fault) is told first second =
    let k = checks_give (r.size - c.at) c.head c.span is in
    HasRead-within _ (reads_over (r.size - c.at)) (by_device fault) old new (omega (arith, k.inside)) (Passes-then first second (le_refl c.at) (le_refl c.at) (le_refl (content_start c))).read

pub cell_gives : (size : ℕ) (c : Cell) (a : StepResult) → PassesChecks size c → false ≡ has_bad_size size → c.at % 64 ≡ 0 → c.at ≤ size → IfOk a (λ step. step ≡ steps.Cell c) → GivesCell size c.at a
cell_gives size c (Err fault) is good aligned inside told = tt
cell_gives size c (Ok step) is good aligned inside told =
    let k = checks_give (size - c.at) c.head c.span is in
    let whole = good_size size good in
    let within = k.within (omega (arith, whole, aligned, inside)) in
    rw told (record { aligned = aligned; positive = k.positive; whole = k.whole; inside = omega (arith, within, inside); content = k.fits; checks = is }, refl)

-- ---- an ended walk

pub ends_faultless : (r : Range) (a : StepResult) → (walk_after (record { region = r; at = 0; steps = 0; ended = None }) a).ended ≡ Some a → fault_count by_device a ≡ 0
ends_faultless r a e = grind (arith, common_steps)

pub ends_cell : (r : Range) (size at : ℕ) (a : StepResult) → (walk_after (record { region = r; at = 0; steps = 0; ended = None }) a).ended ≡ Some a → GivesCell size at a
ends_cell r size at a e = grind (arith, common_steps)

pub ends_moved : (r : Range) (w : Walking) (a : StepResult) → (walk_after (record { region = r; at = 0; steps = 0; ended = None }) a).ended ≡ Some a → w.ended ≡ Some a → w ≡ walk_after w a
ends_moved r w a e is = grind (arith, common_steps)

-- ---- the last steps of a walk

abbrev pub IsLast : Step → Type 0
IsLast step = ((at : ℕ) × (step ≡ steps.Tail at)) ⊎ (step ≡ steps.End)

pub last_reads : (step : Step) (size at : ℕ) → IsLast step → reads_at size at (Ok step) ≡ reads_over (size - at)
last_reads step size at it = grind (arith, common_steps)
