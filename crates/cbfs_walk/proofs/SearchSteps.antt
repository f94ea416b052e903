-- The search for a component, cell by cell.
use Rattle.std.proofs.lemmas.Grind.{common_steps}
use Rattle.std.proofs.Common.{◌≡◌, ℕ, ◌+◌, ◌/◌, ◌%◌, ◌≤◌, Bool, true, false, cond, not, ◌&&◌, ◌⊎◌, inl, inr, IsTrue, List, length, Option, Some, None, Result, Ok, Err, refl, sym, ap, ◌∙◌, arith}
use Rattle.std.specs.Prelude.{IsErrOf}
use Rattle.std.specs.Option.{option_map_or}
use Rattle.std.specs.Str.{bytes_eq}
use Rattle.flash_format.specs.Head.{is_free}
use Rattle.flash_format.specs.Cut.{Cut}
use Rattle.flash_format.specs.Components.{Component, cell_name, component_at, components_from}
use Rattle.flash_device.specs.Device.{fault_count}
use Rattle.flash_device.specs.Pages.{Pages, HasRead}
use Rattle.flash_device.specs.Regions.{Range, LiesOn, bytes_in}
use Rattle.cbfs_walk.specs.Walks.{reads_over, StepResult, Walking, answer_at, StandsIn, GivesCell, reads_at, by_device, walk_after}
use Rattle.cbfs_walk.specs.Cells.{IsCellIn, cell_in}
use Rattle.cbfs_walk.specs.CellReadings.{reading_of, ReadsCells, by_answer, place_after}
use Rattle.cbfs_walk.specs.Search.{first_named, not_found, component_in}
use Rattle.cbfs_walk.specs.declared.cell.Cell.{Cell}
use Rattle.cbfs_walk.specs.declared.walk.Step.{Step}
use Rattle.cbfs_walk.specs.declared.walk.Step.TheVariants as steps
use Rattle.cbfs_walk.specs.declared.walk.WalkFault.{WalkFault}
use Rattle.cbfs_walk.specs.declared.walk.WalkFault.TheVariants as faults
use Rattle.flash_device.proofs.DeviceLemmas.{honest_still}
use Rattle.flash_device.proofs.WindowLemmas.{HasRead-none, HasRead-then, HasRead-within}
use Rattle.cbfs_walk.proofs.Parts.{length-region}
use Rattle.cbfs_walk.proofs.Shapes.{shaped_step}
use Rattle.cbfs_walk.proofs.StepResults.{IsLast}

abbrev Found : Type 0
Found = Result (Option Component) WalkFault

refused : WalkFault → Found
refused fault = Err fault

-- the first component with the name in a cut at a position
find_cut : List ℕ → ℕ → Cut → Found
find_cut name at k = option_map_or (λ c. Ok (Some c)) (first_named name (components_from at k.cells)) (not_found (place_after at k.cells) k.end)

each_cell : List ℕ → List ℕ → Cell → Found → Found
each_cell name c given later = cond (not (is_free given.head) && bytes_eq (cell_name c) name) (Ok (Some (component_at given.at c))) later

pub found_from : List ℕ → List ℕ → ℕ → Found
found_from x name at = reading_of refused (find_cut name) x at

law : (name : List ℕ) → ReadsCells (find_cut name) (each_cell name)
unfolding find_cut each_cell components_from
law name at c k = grind (arith, common_steps)

pub found_whole : (x name : List ℕ) → component_in x name ≡ found_from x name 0
unfolding component_in found_from refused find_cut reading_of
found_whole x name = refl

-- by the walk's result
found_by : List ℕ → List ℕ → StepResult → Found
found_by x name answer = by_answer refused (find_cut name) (each_cell name) x answer

found_step : (x name : List ℕ) (at : ℕ) → at ≤ length x → at % 64 ≡ 0 → found_from x name at ≡ found_by x name (answer_at x at)
unfolding found_from found_by
found_step x name at inside aligned = shaped_step refused (find_cut name) (each_cell name) (law name) x at inside aligned

-- ---- the loop

-- no earlier cell is the component
pub record Searching {F : Type 0} (r : Range) (name : List ℕ) (w : Walking) (old now : Pages F) : Type 0 where
  pub region : w.region ≡ r
  pub going : w.ended ≡ None
  pub inside : w.at ≤ r.size
  pub aligned : w.at % 64 ≡ 0
  pub read : HasRead (w.at / 16) 0 old now
  pub so_far : IsTrue old.device.honest → component_in (bytes_in r old.device.content) name ≡ found_from (bytes_in r old.device.content) name w.at

pub searching_start : {F : Type 0} (r : Range) (name : List ℕ) (old : Pages F) → Searching r name (record { region = r; at = 0; steps = 0; ended = None }) old old
searching_start r name old = record {
  region = refl;
  going = refl;
  inside = omega arith;
  aligned = refl;
  read = HasRead-within 0 (0 / 16) 0 old old (omega arith) (HasRead-none old);
  so_far = λ h. found_whole (bytes_in r old.device.content) name;
}

told_step : (s : Step) (b : StepResult) → (let a : StepResult = Ok s in IsErrOf a faults.Device ⊎ (a ≡ b)) → Ok s ≡ b
told_step s b it = grind (arith, common_steps)

module _ {F : Type 0} (r : Range) (name : List ℕ) (w : Walking) (old now : Pages F) (lies : LiesOn r old.device) (s : Searching r name w old now) where
  answered : (a : StepResult) → IsTrue old.device.honest → a ≡ answer_at (bytes_in w.region now.device.content) w.at
      → (a ≡ answer_at (bytes_in r old.device.content) w.at) × (component_in (bytes_in r old.device.content) name ≡ found_by (bytes_in r old.device.content) name a)
  answered a h is =
      let x = bytes_in r old.device.content in
      let len : length x ≡ r.size = length-region r old.device.content lies.inside in
      let here : a ≡ answer_at x w.at = is ∙ ap (λ (k : Range). answer_at (bytes_in k now.device.content) w.at) s.region ∙ ap (λ l. answer_at (bytes_in r l) w.at) (s.read.device.unchanged h) in
      (here, s.so_far h ∙ found_step x name w.at (omega (arith, len, s.inside)) s.aligned ∙ ap (found_by x name) (sym here))

  -- a cell, and the result of its test
  module _ (step : Step) (c : Cell) (mid : Pages F) (is_it : Bool) (is : step ≡ steps.Cell c) (gives : GivesCell w.region.size w.at (Ok step))
      (reading : HasRead (reads_at w.region.size w.at (Ok step)) (fault_count by_device (Ok step)) now mid)
      (answers : IsTrue now.device.honest → w.ended ≡ None → (let a : StepResult = Ok step in IsErrOf a faults.Device ⊎ (a ≡ answer_at (bytes_in w.region now.device.content) w.at)))
      (test : IsTrue mid.device.honest → StandsIn (bytes_in r mid.device.content) c → is_it ≡ (not (is_free c.head) && bytes_eq (cell_name (cell_in (bytes_in r mid.device.content) c)) name)) where
    given : IsCellIn w.region.size c × (c.at ≡ w.at)
    given = rw is at gives

    reads : HasRead (reads_over c.span) 0 now mid
    reads = rw is at reading

    answer : IsTrue old.device.honest → (let a : StepResult = Ok (steps.Cell c) in a ≡ answer_at (bytes_in w.region now.device.content) w.at)
    answer h = rw is at (told_step _ _ (answers (honest_still s.read.device.calls.same_honesty h) s.going))

    cell_of_region : IsCellIn r.size c
    cell_of_region = rw s.region at given.0

    stands : IsTrue old.device.honest → StandsIn (bytes_in r old.device.content) c
    stands h = ap (answer_at (bytes_in r old.device.content)) given.1 ∙ sym (answered (Ok (steps.Cell c)) h (answer h)).0

    tested : IsTrue old.device.honest → component_in (bytes_in r old.device.content) name
        ≡ cond is_it (Ok (Some (component_at c.at (cell_in (bytes_in r old.device.content) c)))) (found_from (bytes_in r old.device.content) name (c.at + c.span))
    unfolding found_by each_cell found_from
    tested h =
        let x = bytes_in r old.device.content in
        let k = honest_still s.read.device.calls.same_honesty h in
        let same : mid.device.content ≡ old.device.content = reads.device.unchanged k ∙ s.read.device.unchanged h in
        let told = rw same at (test (honest_still reads.device.calls.same_honesty k)) in
        (answered (Ok (steps.Cell c)) h (answer h)).1
        ∙ ap (λ b. cond b (Ok (Some (component_at c.at (cell_in x c)))) (found_from x name (c.at + c.span))) (sym (told (stands h)))

    pub found_first : is_it ≡ true → IsTrue old.device.honest → component_in (bytes_in r old.device.content) name ≡ Ok (Some (component_at c.at (cell_in (bytes_in r old.device.content) c)))
    found_first e h = tested h ∙ ap (λ b. cond b (Ok (Some (component_at c.at (cell_in (bytes_in r old.device.content) c)))) (found_from (bytes_in r old.device.content) name (c.at + c.span))) e

    pub searching_more : (v : Walking) (new : Pages F) → is_it ≡ false → v ≡ walk_after w (Ok step) → HasRead 1 0 mid new → Searching r name v old new
    searching_more v new e next more = rw (rw is at next) (record {
      region = s.region;
      going = s.going;
      inside = omega (arith, cell_of_region.inside, given.1);
      aligned = omega (arith, s.aligned, given.0.whole);
      read = HasRead-within (w.at / 16 + (reads_over c.span + 1)) ((w.at + c.span) / 16) 0 old new (omega (arith, given.0.positive)) (HasRead-then (w.at / 16) (reads_over c.span + 1) 0 old now new s.read (HasRead-then (reads_over c.span) 1 0 now mid new reads more));
      so_far = λ h.
          let x = bytes_in r old.device.content in
          tested h
          ∙ ap (λ b. cond b (Ok (Some (component_at c.at (cell_in x c)))) (found_from x name (c.at + c.span))) e
          ∙ ap (λ q. found_from x name (q + c.span)) given.1;
    })

  -- ---- an ended walk

  module _ (step : Step) (last : IsLast step) where
    last_found : found_by (bytes_in r old.device.content) name (Ok step) ≡ Ok None
    unfolding found_by find_cut components_from
    last_found = grind (arith, common_steps)

    pub last_after : (mid : Pages F) → HasRead (reads_at w.region.size w.at (Ok step)) 0 now mid → HasRead (r.size / 16 + 2) 0 old mid
    last_after mid reading = grind (arith, common_steps)

    pub last_answer : (IsTrue now.device.honest → w.ended ≡ None → (let a : StepResult = Ok step in IsErrOf a faults.Device ⊎ (a ≡ answer_at (bytes_in w.region now.device.content) w.at)))
        → IsTrue old.device.honest → component_in (bytes_in r old.device.content) name ≡ Ok None
    last_answer answer h = (answered (Ok step) h (told_step _ _ (answer (honest_still s.read.device.calls.same_honesty h) s.going))).1 ∙ last_found

  refusal : (fault : WalkFault) → found_by (bytes_in r old.device.content) name (Err fault) ≡ Err fault
  unfolding found_by find_cut components_from refused
  refusal fault = grind (arith, common_steps)

  pub searching_err : (fault : WalkFault) → (answer : IsTrue now.device.honest → w.ended ≡ None → (let a : StepResult = Err fault in IsErrOf a faults.Device ⊎ (a ≡ answer_at (bytes_in w.region now.device.content) w.at)))
      → IsTrue old.device.honest → (let a : Result (Option Cell) WalkFault = Err fault in IsErrOf a faults.Device ⊎ (component_in (bytes_in r old.device.content) name ≡ Err fault))
  searching_err fault answer h = go (answer (honest_still s.read.device.calls.same_honesty h) s.going)
    where
      go : (let a : StepResult = Err fault in IsErrOf a faults.Device ⊎ (a ≡ answer_at (bytes_in w.region now.device.content) w.at))
          → (let a : Result (Option Cell) WalkFault = Err fault in IsErrOf a faults.Device ⊎ (component_in (bytes_in r old.device.content) name ≡ Err fault))
      go (inl device) = let is : fault ≡ faults.Device = cc in inl (ap (λ (f : WalkFault). Err f) is)
      go (inr is) = inr ((answered (Err fault) h is).1 ∙ refusal fault)
