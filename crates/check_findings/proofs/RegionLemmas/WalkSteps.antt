-- The findings so far, and of the rest of a region.
use Rattle.std.proofs.Common.{◌≡◌, ℕ, ◌+◌, ◌/◌, ◌%◌, ◌≤◌, IsTrue, Bool, true, false, List, [], ◌∷◌, ◌++◌, length, Option, Some, None, Ok, Err, refl, sym, ap, ◌∙◌, arith, append_assoc}
use Rattle.std.specs.Prelude.{IsErrOf}
use Rattle.std.proofs.lemmas.Grind.{common_steps}
use mathlib.Core.Path.{fun_ext}
use Rattle.flash_format.specs.Cut.{Cut, End, after, cut}
use Rattle.flash_device.specs.Pages.{Pages, HasRead, OnHonestIn}
use Rattle.flash_device.proofs.WindowLemmas.{HasRead-then}
use Rattle.flash_device.specs.Regions.{Range, LiesOn, bytes_in}
use Rattle.flash_device.proofs.DeviceLemmas.{honest_still, length-bytes_in}
use Rattle.cbfs_walk.specs.Cells.{IsCellIn, cell_in}
use Rattle.cbfs_walk.specs.Walks.{reads_over, StepResult, Walking, answer_at, StandsIn}
use Rattle.std.specs.Option.{option_map_or}
use Rattle.cbfs_walk.specs.Shapes.{shape_fault}
use Rattle.cbfs_walk.specs.CellReadings.{reading_of, ReadsCells, by_answer, place_after}
use Rattle.cbfs_walk.specs.declared.cell.Cell.{Cell}
use Rattle.cbfs_walk.specs.declared.walk.Step.TheVariants as steps
use Rattle.cbfs_walk.specs.declared.walk.WalkFault.{WalkFault}
use Rattle.cbfs_walk.specs.declared.walk.WalkFault.TheVariants as walk
use Rattle.cbfs_walk.proofs.Shapes.{shaped_step}
use Rattle.flash_format.specs.Head.{head_of, is_free}
use Rattle.flash_format.specs.declared.head.DamageKind.{DamageKind}
use Rattle.check_findings.specs.RegionFindings.{cell_findings, cells_findings, counts_after, count_findings, end_findings, entry_counts, tail_findings, shape_findings, walk_findings}
use Rattle.check_findings.specs.declared.region.finding.RegionFinding.{RegionFinding}
use Rattle.check_findings.specs.declared.region.finding.RegionFinding.TheVariants as findings
use Rattle.check_findings.specs.declared.region.entry_counts.EntryCounts.{EntryCounts}
use Rattle.check_findings.proofs.RegionLemmas.WalkParts.{Answers, Reached, reached_answer, reached_more, reached_start}
use Rattle.std.specs.List.{fold}

-- ---- by the cut

-- the end of the cells of a region, and the counts
last : List ℕ → End → ℕ → List RegionFinding → List RegionFinding
last bytes end at counts = end_findings bytes at end ++ counts

count_all : EntryCounts → List (List ℕ) → EntryCounts
count_all = fold (λ (n : EntryCounts) x. counts_after n (is_free (head_of x)) (length x))

-- the findings of a region after these counts, if the cut continues at an offset
cut_findings : List ℕ → ℕ → Cut → EntryCounts → List RegionFinding
cut_findings bytes at k n = cells_findings at k.cells ++ last bytes k.end (place_after at k.cells) (count_findings (count_all n k.cells))

cell_step : List ℕ → Cell → (EntryCounts → List RegionFinding) → EntryCounts → List RegionFinding
cell_step x given later n = cell_findings given.at x ++ later (counts_after n (is_free given.head) given.span)

fault_findings : WalkFault → EntryCounts → List RegionFinding
fault_findings fault n = shape_findings fault

cell_more : (bytes : List ℕ) (at : ℕ) (x : List ℕ) (k : Cut) (n : EntryCounts)
    → cut_findings bytes at (after (x ∷ []) k) n ≡ cell_findings at x ++ cut_findings bytes (at + length x) k (counts_after n (is_free (head_of x)) (length x))
unfolding cut_findings cells_findings last count_all
cell_more bytes at x k n = append_assoc (cell_findings at x) (cells_findings (at + length x) k.cells) _

law : (bytes : List ℕ) → ReadsCells (cut_findings bytes) cell_step
unfolding cell_step
law bytes at x k = fun_ext (λ (n : EntryCounts). cell_more bytes at x k n)

-- the findings from an offset on
pub findings_from : List ℕ → EntryCounts → ℕ → List RegionFinding
findings_from x n at = reading_of fault_findings (cut_findings x) x at n

whole_findings : (x : List ℕ) → walk_findings x ≡ findings_from x (entry_counts (length x) []) 0
unfolding findings_from fault_findings walk_findings reading_of cut_findings last count_all
whole_findings x = go (shape_fault x)
  where
    go : (o : Option WalkFault) → option_map_or shape_findings o (cells_findings 0 (cut x).cells ++ last x (cut x).end (place_after 0 (cut x).cells) (count_findings (entry_counts (length x) (cut x).cells))) ≡ option_map_or fault_findings o (cut_findings x 0 (cut x)) (entry_counts (length x) [])
    go None = refl
    go (Some fault) = refl

-- the same by the result of the walk
findings_by : List ℕ → EntryCounts → StepResult → List RegionFinding
findings_by x n answer = by_answer fault_findings (cut_findings x) cell_step x answer n

by_step : (x : List ℕ) (n : EntryCounts) (at : ℕ) → at ≤ length x → at % 64 ≡ 0 → findings_from x n at ≡ findings_by x n (answer_at x at)
unfolding findings_from findings_by
by_step x n at inside aligned = ap (λ (f : EntryCounts → List RegionFinding). f n) (shaped_step fault_findings (cut_findings x) cell_step (law x) x at inside aligned)

-- a tail begins at the walk's offset
tail_place : (x : List ℕ) (place at : ℕ) → (let a : StepResult = Ok (steps.Tail at) in a) ≡ answer_at x place → at ≡ place
unfolding answer_at
tail_place x place at is = grind (arith, common_steps, is)

-- ---- the loop

-- the check has reached the walk's offset
pub record Checking {F : Type 0} (r : Range) (w : Walking) (found : List RegionFinding) (count : EntryCounts) (old now : Pages F) : Type 0 where
  pub reached : Reached r w (w.at / 10) old now
  pub place : count.at ≡ w.at
  pub before : (count.components ≤ count.at) × (count.free ≤ count.at)
  pub so_far : OnHonestIn old.device r (λ x. walk_findings x ≡ found ++ findings_from x count w.at)

pub checking_start : {F : Type 0} (r : Range) (old : Pages F) → LiesOn r old.device → Checking r (record { region = r; at = 0; steps = 0; ended = None }) [] (entry_counts r.size []) old old
checking_start r old lies = record {
  reached = reached_start r (0 / 10) old;
  place = refl;
  before = (omega arith, omega arith);
  so_far = λ h.
      let x = bytes_in r old.device.content in
      whole_findings x ∙ ap (λ n. findings_from x (entry_counts n []) 0) (length-bytes_in r old.device.content lies.inside);
}

counted : (free : Bool) (n : EntryCounts) (at len : ℕ) → n.at ≡ at → (n.components ≤ n.at) × (n.free ≤ n.at) → 64 ≤ len
    → (let m = counts_after n free len in (m.at ≡ at + len) × ((m.components ≤ m.at) × (m.free ≤ m.at)))
counted true n at len is had some = (omega (arith, is), (omega (arith, had.0), omega (arith, had.1)))
counted false n at len is had some = (omega (arith, is), (omega (arith, had.0, some), omega (arith, had.1)))

module _ {F : Type 0} (r : Range) (w : Walking) (found : List RegionFinding) (count : EntryCounts) (old now : Pages F) (lies : LiesOn r old.device) (i : Checking r w found count old now) where
  abbrev x : List ℕ
  x = bytes_in r old.device.content

  answered : (a : StepResult) → Answers w now a → (IsErrOf a walk.Device → ⊥) → IsTrue old.device.honest → (a ≡ answer_at x w.at) × (walk_findings x ≡ found ++ findings_by x count a)
  answered a answer other h =
      let here = reached_answer i.reached a lies answer other h in
      let step = by_step x count w.at here.1 i.reached.aligned ∙ ap (λ (b : StepResult). findings_by x count b) (sym here.0) in
      (here.0, i.so_far h ∙ ap (λ (l : List RegionFinding). found ++ l) step)

  -- another cell
  pub checking_more : (c : Cell) (v : Walking) (next : List RegionFinding) (more : EntryCounts) (mid new : Pages F) (n m : ℕ) → IsCellIn w.region.size c × (c.at ≡ w.at)
      → HasRead n 0 now mid → n ≡ reads_over c.span → HasRead m 0 mid new → m ≡ 5 + c.span / 960
      → Answers w now (Ok (steps.Cell c))
      → v ≡ record w { at = w.at + c.span; steps = w.steps + 1 }
      → more ≡ counts_after count (is_free c.head) c.span
      → OnHonestIn mid.device r (λ y. StandsIn y c → next ≡ found ++ cell_findings c.at (cell_in y c))
      → Checking r v next more old new
  unfolding findings_by cell_step findings_from
  checking_more c v next more mid new n m given reads few over fewer answer moved is_more gains = rw moved (record {
    reached = reached_more i.reached c (n + m) ((w.at + c.span) / 10) new given (HasRead-then n m 0 now mid new reads over) (omega (arith, few, fewer, given.0.positive, given.0.whole, i.reached.aligned));
    place = rw is_more (counted (is_free c.head) count w.at c.span i.place i.before given.0.positive).0;
    before = rw is_more (counted (is_free c.head) count w.at c.span i.place i.before given.0.positive).1;
    so_far = λ h.
        let k = honest_still i.reached.read.device.calls.same_honesty h in
        let same : mid.device.content ≡ old.device.content = reads.device.unchanged k ∙ i.reached.read.device.unchanged h in
        let known = answered (Ok (steps.Cell c)) answer (λ e. cc) h in
        let stands : StandsIn x c = ap (λ p. answer_at x p) given.1 ∙ sym known.0 in
        let cells = cell_findings c.at (cell_in x c) in
        let gained = (rw same at (gains (honest_still reads.device.calls.same_honesty k))) stands in
        known.1 ∙ sym (append_assoc found cells _) ∙ ap (λ p. (found ++ cells) ++ findings_from x (counts_after count (is_free c.head) c.span) (p + c.span)) given.1 ∙ rw (gained, is_more) refl;
  })

  -- ---- the walk ended

  -- the last findings follow
  stopped : (a : StepResult) (more all : List RegionFinding) → Answers w now a → (IsErrOf a walk.Device → ⊥) → all ≡ found ++ more → findings_by x count a ≡ more → IsTrue old.device.honest → all ≡ walk_findings x
  stopped a more all answer other is_all is h =
      is_all ∙ sym ((answered a answer other h).1 ∙ ap (λ (l : List RegionFinding). found ++ l) is)

  -- the last findings and the counts
  with_counts : (more next all : List RegionFinding) → next ≡ found ++ more → all ≡ next ++ count_findings count → all ≡ found ++ (more ++ count_findings count)
  with_counts more next all pushed is_all = is_all ∙ ap (λ (l : List RegionFinding). l ++ count_findings count) pushed ∙ append_assoc found more (count_findings count)

  pub checking_end : (next all : List RegionFinding) → Answers w now (Ok steps.End) → next ≡ found ++ findings.Complete ∷ [] → all ≡ next ++ count_findings count
      → IsTrue old.device.honest → all ≡ walk_findings x
  unfolding findings_by cut_findings cells_findings last count_all
  checking_end next all answer pushed is_all =
      stopped (Ok steps.End) (findings.Complete ∷ count_findings count) all answer (λ e. cc) (with_counts (findings.Complete ∷ []) next all pushed is_all) refl

  pub checking_tail : (at n : ℕ) (mid : Pages F) (next all : List RegionFinding) → Answers w now (Ok (steps.Tail at)) → HasRead n 0 now mid
      → OnHonestIn mid.device r (λ y. next ≡ found ++ tail_findings count.at y) → all ≡ next ++ count_findings count → IsTrue old.device.honest → all ≡ walk_findings x
  unfolding findings_by cut_findings cells_findings last count_all
  checking_tail at n mid next all answer reads pushed is_all h =
      let k = honest_still i.reached.read.device.calls.same_honesty h in
      let content : mid.device.content ≡ old.device.content = reads.device.unchanged k ∙ i.reached.read.device.unchanged h in
      let same : at ≡ count.at = tail_place x w.at at (answered (Ok (steps.Tail at)) answer (λ e. cc) h).0 ∙ sym i.place in
      stopped (Ok (steps.Tail at)) (tail_findings count.at x ++ count_findings count) all answer (λ e. cc)
      (with_counts (tail_findings count.at x) next all (rw content at (pushed (honest_still reads.device.calls.same_honesty k))) is_all)
      (ap (λ p. tail_findings p x ++ count_findings count) same) h

  pub checking_damage : (at : ℕ) (kind : DamageKind) (next all : List RegionFinding) → Answers w now (Err (walk.Damaged at kind)) → next ≡ found ++ findings.Damaged at kind ∷ [] → all ≡ next ++ count_findings count
      → IsTrue old.device.honest → all ≡ walk_findings x
  unfolding findings_by cut_findings cells_findings last count_all
  checking_damage at kind next all answer pushed is_all =
      stopped (Err (walk.Damaged at kind)) (findings.Damaged at kind ∷ count_findings count) all answer (λ e. cc) (with_counts (findings.Damaged at kind ∷ []) next all pushed is_all) refl

  pub checking_size : (all : List RegionFinding) → Answers w now (Err walk.RegionShape) → all ≡ found ++ findings.BadSize ∷ [] → IsTrue old.device.honest → all ≡ walk_findings x
  unfolding findings_by fault_findings
  checking_size all answer pushed = stopped (Err walk.RegionShape) (findings.BadSize ∷ []) all answer (λ e. cc) pushed refl

  pub checking_absent : (all : List RegionFinding) → Answers w now (Err walk.NotCbfs) → all ≡ found ++ findings.NotCbfs ∷ [] → IsTrue old.device.honest → all ≡ walk_findings x
  unfolding findings_by fault_findings
  checking_absent all answer pushed = stopped (Err walk.NotCbfs) (findings.NotCbfs ∷ []) all answer (λ e. cc) pushed refl
