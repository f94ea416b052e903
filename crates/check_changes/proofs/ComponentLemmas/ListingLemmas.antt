-- The components of a region, cell by cell.
use Rattle.std.proofs.Common.{None, ◌≡◌, ℕ, ◌+◌, ◌/◌, ◌%◌, ◌≤◌, IsTrue, Bool, true, false, cond, List, [], ◌∷◌, ◌++◌, length, map, Ok, Err, refl, sym, ap, ◌∙◌, arith, append_assoc}
use Rattle.std.specs.Prelude.{All, IsErrOf, Vec, not}
use Rattle.std.specs.declared.alloc.Global.{Global}
use Rattle.std.proofs.lemmas.List.{append-nil}
use Rattle.std.proofs.lemmas.List.Elements.{All-nil}
use Rattle.flash_format.specs.Head.{head_of, is_free}
use Rattle.flash_format.specs.Cut.{Cut}
use Rattle.flash_format.specs.Components.{component_at, components_from}
use Rattle.flash_device.specs.Pages.{Pages, HasRead, OnHonestIn}
use Rattle.flash_device.proofs.WindowLemmas.{HasRead-then}
use Rattle.flash_device.specs.Regions.{Range, LiesOn, bytes_in}
use Rattle.flash_device.proofs.DeviceLemmas.{honest_still}
use Rattle.cbfs_walk.specs.Cells.{IsCellIn, cell_in}
use Rattle.cbfs_walk.specs.Walks.{reads_over, StepResult, Walking, answer_at, StandsIn}
use Rattle.cbfs_walk.specs.CellReadings.{reading_of, ReadsCells, by_answer}
use Rattle.cbfs_walk.specs.declared.cell.Cell.{Cell}
use Rattle.cbfs_walk.specs.declared.walk.Step.TheVariants as steps
use Rattle.cbfs_walk.specs.declared.walk.WalkFault.TheVariants as walk
use Rattle.cbfs_walk.proofs.Shapes.{shaped_step}
use Rattle.check_findings.proofs.RegionLemmas.WalkParts.{Answers, Reached, reached_answer, reached_more, reached_start}
use Rattle.check_findings.specs.Lists.{only_if}
use Rattle.check_changes.specs.Components.{listed_in}
use Rattle.flash_format.specs.Components.{Component, cell_name}
use Rattle.check_changes.specs.Components.{IsListedIn, spans}
use Rattle.check_changes.specs.declared.components.listing.Listed.{Listed}

-- a component by its name and cell
abbrev listed_of : Component → Listed
listed_of c = record { name = c.name; cell = record { at = c.at; head = head_of c.bytes; span = length c.bytes } }

-- the component of a cell with these bytes; none for an empty entry
abbrev cell_listed : List ℕ → Cell → List Listed
cell_listed bytes c = only_if (not (is_free c.head)) (record { name = cell_name bytes; cell = c })

-- ---- the components from an offset on

rest_read : ℕ → Cut → List Listed
rest_read at k = map listed_of (components_from at k.cells)

rest_cell : List ℕ → Cell → List Listed → List Listed
rest_cell bytes c later = cell_listed bytes c ++ later

law : ReadsCells rest_read rest_cell
unfolding rest_read rest_cell components_from
law at bytes k = go (is_free (head_of bytes)) (components_from (at + length bytes) k.cells)
  where
    go : (free : Bool) (others : _) → map listed_of (cond free others (component_at at bytes ∷ others)) ≡ only_if (not free) (listed_of (component_at at bytes)) ++ map listed_of others
    go true others = refl
    go false others = refl

pub listed_from : List ℕ → ℕ → List Listed
listed_from x at = reading_of (λ fault. []) rest_read x at

listed_whole : (x : List ℕ) → listed_in x ≡ listed_from x 0
unfolding listed_in listed_from reading_of rest_read
listed_whole x = refl

-- the same by the result of a walk
listed_by : List ℕ → StepResult → List Listed
listed_by x answer = by_answer (λ fault. []) rest_read rest_cell x answer

listed_step : (x : List ℕ) (at : ℕ) → at ≤ length x → at % 64 ≡ 0 → listed_from x at ≡ listed_by x (answer_at x at)
unfolding listed_from listed_by
listed_step x at inside aligned = shaped_step (λ fault. []) rest_read rest_cell law x at inside aligned

abbrev pub IsNoCell : StepResult → Type 0
IsNoCell a = (c : Cell) → a ≡ Ok (steps.Cell c) → ⊥

listed_end : (x : List ℕ) (a : StepResult) → IsNoCell a → listed_by x a ≡ []
unfolding listed_by rest_read components_from
listed_end x (Ok (steps.Cell c)) none = absurd (none c refl)
listed_end x (Ok step) none = refl
listed_end x (Err (walk.Damaged at kind)) none = refl
listed_end x (Err fault) none = refl

-- ---- the loop

-- the listing has reached the walk's offset
pub record ListedSoFar {F : Type 0} (r : Range) (w : Walking) (all : Vec Listed Global) (old now : Pages F) : Type 0 where
  pub reached : Reached r w (w.at / 24) old now
  pub cells : All (IsListedIn r.size) all.items
  pub room : spans all.items ≤ w.at
  pub so_far : IsTrue old.device.honest → all.items ++ listed_from (bytes_in r old.device.content) w.at ≡ listed_in (bytes_in r old.device.content)

pub listing_start : {F : Type 0} (r : Range) (all : Vec Listed Global) (old : Pages F) → all.items ≡ [] → ListedSoFar r (record { region = r; at = 0; steps = 0; ended = None }) all old old
listing_start r all old none = record {
  reached = reached_start r (0 / 24) old;
  cells = rw none (All-nil (IsListedIn r.size));
  room = rw none (omega arith);
  so_far = λ h. rw none (sym (listed_whole (bytes_in r old.device.content)));
}

module _ {F : Type 0} (r : Range) (w : Walking) (all : Vec Listed Global) (old now : Pages F) (lies : LiesOn r old.device) (i : ListedSoFar r w all old now) where
  abbrev x : List ℕ
  x = bytes_in r old.device.content

  answered : (a : StepResult) → (IsErrOf a walk.Device → ⊥) → Answers w now a → IsTrue old.device.honest → (a ≡ answer_at x w.at) × (all.items ++ listed_by x a ≡ listed_in x)
  answered a other answer h =
      let here = reached_answer i.reached a lies answer other h in
      let step : listed_by x a ≡ listed_from x w.at = ap (λ (b : StepResult). listed_by x b) here.0 ∙ sym (listed_step x w.at here.1 i.reached.aligned) in
      (here.0, ap (λ (l : List Listed). all.items ++ l) step ∙ i.so_far h)

  -- a cell is listed
  pub listing_more : (c : Cell) (v : Walking) (next : Vec Listed Global) (mid new : Pages F) (n : ℕ) → IsCellIn w.region.size c × (c.at ≡ w.at)
      → HasRead n 0 now mid → n ≡ reads_over c.span → HasRead 1 0 mid new
      → Answers w now (Ok (steps.Cell c))
      → v ≡ record w { at = w.at + c.span; steps = w.steps + 1 }
      → (All (IsListedIn r.size) all.items → All (IsListedIn r.size) next.items) → spans next.items ≤ spans all.items + c.span
      → OnHonestIn mid.device r (λ x. StandsIn x c → next.items ≡ all.items ++ cell_listed (cell_in x c) c)
      → ListedSoFar r v next old new
  unfolding listed_by listed_from rest_cell
  listing_more c v next mid new n given reads few more answer moved cells room listed = rw moved (record {
    reached = reached_more i.reached c (n + 1) ((w.at + c.span) / 24) new given (HasRead-then n 1 0 now mid new reads more) (omega (arith, few, given.0.positive, given.0.whole, i.reached.aligned));
    cells = cells i.cells;
    room = omega (arith, room, i.room);
    so_far = λ h.
        let k = honest_still i.reached.read.device.calls.same_honesty h in
        let same : mid.device.content ≡ old.device.content = reads.device.unchanged k ∙ i.reached.read.device.unchanged h in
        let told = answered (Ok (steps.Cell c)) (λ e. absurd cc) answer h in
        let stands : StandsIn x c = ap (λ p. answer_at x p) given.1 ∙ sym told.0 in
        let here : next.items ≡ all.items ++ cell_listed (cell_in x c) c = (rw same at (listed (honest_still reads.device.calls.same_honesty k))) stands in
        ap (λ (l : List Listed). l ++ listed_from x (w.at + c.span)) here
        ∙ append_assoc all.items (cell_listed (cell_in x c) c) (listed_from x (w.at + c.span))
        ∙ ap (λ p. all.items ++ (cell_listed (cell_in x c) c ++ listed_from x (p + c.span))) (sym given.1)
        ∙ told.1;
  })

  -- the walk ended
  pub listing_lists : (a : StepResult) → IsNoCell a → (IsErrOf a walk.Device → ⊥) → Answers w now a
      → All (IsListedIn r.size) all.items × (spans all.items ≤ r.size) × OnHonestIn old.device r (λ x. all.items ≡ listed_in x)
  listing_lists a none other answer = (
    i.cells,
    omega (arith, i.room, i.reached.inside),
    λ h. sym (append-nil all.items) ∙ ap (λ (l : List Listed). all.items ++ l) (sym (listed_end x a none)) ∙ (answered a other answer h).1,
  )
