-- Searches over the cells of a region.
use Rattle.std.proofs.Common.{◌≡◌, ℕ, ◌+◌, ◌-◌, ◌/◌, ◌%◌, ◌≤◌, ◌⊎◌, ⊎_elim, inl, inr, IsTrue, List, [], ◌∷◌, length, Option, Some, None, Result, Ok, Err, refl, sym, ap, subst, ◌∙◌, arith, Bool, true, false, cond}
use Rattle.std.specs.Prelude.{IfErr, IfOk, IsErrOf, ◌||◌, is_some, nat_lt, ok_or}
use mathlib.Core.Path.{fun_ext}
use Rattle.flash_format.specs.Cut.{Cut, cut}
use Rattle.flash_device.specs.Device.{fault_count}
use Rattle.flash_device.specs.Pages.{Pages, HasRead}
use Rattle.flash_device.proofs.WindowLemmas.{HasRead-none, HasRead-then, HasRead-within}
use Rattle.flash_device.specs.Regions.{Range, LiesOn, bytes_in}
use Rattle.flash_device.proofs.DeviceLemmas.{honest_still, length-bytes_in}
use Rattle.cbfs_walk.specs.Cells.{IsCellIn, cell_in}
use Rattle.cbfs_walk.specs.Walks.{reads_over, StepResult, Walking, answer_at, reads_at, StandsIn}
use Rattle.std.specs.Option.{option_map_or}
use Rattle.cbfs_walk.specs.Shapes.{shape_fault}
use Rattle.cbfs_walk.specs.CellReadings.{reading_of, by_answer, place_after}
use Rattle.cbfs_walk.specs.declared.cell.Cell.{Cell}
use Rattle.cbfs_walk.specs.declared.walk.Step.{Step}
use Rattle.cbfs_walk.specs.declared.walk.WalkFault.{WalkFault}
use Rattle.cbfs_walk.proofs.Shapes.{shaped_step}
use Rattle.cbfs_walk.proofs.StepResults.{IsLast, last_reads}
use Rattle.cbfs_edit.specs.Changes.{IsOwn, by_device}
use Rattle.cbfs_edit.specs.Removals.{edit_fault_of, unless_damaged, unless_unsound, removal_in}
use Rattle.cbfs_edit.specs.declared.fault.EditFault.{EditFault}
use Rattle.std.specs.Str.{bytes_eq}
use Rattle.flash_format.specs.Head.{head_of, is_free}
use Rattle.flash_format.specs.Components.{cell_name, Component, components_from, component_at}
use Rattle.cbfs_edit.specs.Searches.{group_by, HasSearched, place_by}
use Rattle.cbfs_edit.specs.declared.group.CellRange.{CellRange}
use Rattle.cbfs_edit.specs.declared.group.Search.TheVariants.{Looking}
use Rattle.std.specs.List.{cons_option, filter_map, slice_get}
use Rattle.std.specs.Option.{option_or}
use Rattle.cbfs_walk.specs.Search.{first_named}
use Rattle.cbfs_edit.specs.Places.{add_run, runs_from}
use Rattle.cbfs_edit.specs.Places.{place_in, first_place, placing_in}
use Rattle.cbfs_edit.specs.declared.place.Wanted.{Wanted}
use Rattle.cbfs_edit.specs.declared.place.Place.{Place}
use Rattle.cbfs_edit.specs.declared.place.Survey.{Survey}
use Rattle.cbfs_walk.specs.declared.walk.Step.TheVariants as steps
use Rattle.cbfs_walk.specs.declared.walk.WalkFault.TheVariants as walk
use Rattle.cbfs_edit.specs.declared.fault.EditFault.TheVariants as faults

-- ---- any search over cells, with a result by the cells

abbrev Reading : Type 0 → Type 0
Reading A = List (List ℕ) → Result A EditFault

abbrev read_cut : {A : Type 0} → ℕ → Cut → Reading A → Result A EditFault
read_cut at k read = unless_damaged (place_after at k.cells) k.end (read k.cells)

abbrev each_cell : {A : Type 0} → List ℕ → Cell → (Reading A → Result A EditFault) → Reading A → Result A EditFault
each_cell c given later read = later (λ cells. read (c ∷ cells))

abbrev refused : {A : Type 0} → WalkFault → Reading A → Result A EditFault
refused fault read = Err (edit_fault_of fault)

-- the result from an offset on
pub found_from : {A : Type 0} → List ℕ → Reading A → ℕ → Result A EditFault
found_from x read at = reading_of refused read_cut x at read

found_whole : {A : Type 0} (x : List ℕ) (read : Reading A) → unless_unsound x (read (cut x).cells) ≡ found_from x read 0
unfolding found_from reading_of
found_whole {A} x read = go (shape_fault x)
  where
    go : (o : Option WalkFault) → option_map_or (λ fault. Err (edit_fault_of fault)) o (read_cut 0 (cut x) read) ≡ option_map_or refused o (read_cut 0 (cut x)) read
    go None = refl
    go (Some fault) = refl

-- by the walk's result
abbrev found_by : {A : Type 0} → List ℕ → Reading A → StepResult → Result A EditFault
found_by x read answer = by_answer refused read_cut each_cell x answer read

found_step : {A : Type 0} (x : List ℕ) (read : Reading A) (at : ℕ) → at ≤ length x → at % 64 ≡ 0 → found_from x read at ≡ found_by x read (answer_at x at)
unfolding found_from
found_step {A} x read at inside aligned = ap (λ (f : Reading A → Result A EditFault). f read) (shaped_step refused read_cut each_cell (λ p c k. fun_ext (λ (r : Reading A). refl)) x at inside aligned)

found_refusal : {A : Type 0} (x : List ℕ) (read : Reading A) (fault : WalkFault) → found_by x read (Err fault) ≡ Err (edit_fault_of fault)
found_refusal x read (walk.Damaged at kind) = refl
found_refusal x read other = refl

-- ---- the loop

-- a search up to the walk's offset, with its invariant on any device
pub record Surveying {F S A : Type 0} (r : Range) (sense : S → ℕ → Reading A) (by : List ℕ → Result A EditFault) (IsBefore : ℕ → S → Type 0) (w : Walking) (s : S) (old now : Pages F) : Type 0 where
  pub region : w.region ≡ r
  pub going : w.ended ≡ None
  pub inside : w.at ≤ r.size
  pub aligned : w.at % 64 ≡ 0
  pub read : HasRead (w.at / 16) 0 old now
  pub before : IsBefore w.at s
  pub so_far : IsTrue old.device.honest → by (bytes_in r old.device.content) ≡ found_from (bytes_in r old.device.content) (sense s w.at) w.at

pub surveying_start : {F S A : Type 0} (r : Range) (sense : S → ℕ → Reading A) (by : List ℕ → Result A EditFault) (IsBefore : ℕ → S → Type 0) (s : S) (old : Pages F)
    → IsBefore 0 s → (let x = bytes_in r old.device.content in by x ≡ unless_unsound x (sense s 0 (cut x).cells))
    → Surveying r sense by IsBefore (record { region = r; at = 0; steps = 0; ended = None }) s old old
surveying_start r sense by IsBefore s old before is = record {
  region = refl;
  going = refl;
  inside = omega arith;
  aligned = refl;
  read = HasRead-within 0 (0 / 16) 0 old old (omega arith) (HasRead-none old);
  before = before;
  so_far = λ h. is ∙ found_whole (bytes_in r old.device.content) (sense s 0);
}

told_step : (s : Step) (b : StepResult) → (let a : StepResult = Ok s in IsErrOf a walk.Device ⊎ (a ≡ b)) → Ok s ≡ b
told_step s b (inl e) = absurd cc
told_step s b (inr e) = e

-- an error of neither the device nor the source
faultless : {A : Type 0} (r : Result A EditFault) → IfErr r IsOwn → (fault_count by_device r ≡ 0) × (IsErrOf r faults.Source → ⊥)
faultless (Ok a) own = (refl, λ e. absurd cc)
faultless (Err faults.Device) own = absurd own
faultless (Err faults.Source) own = absurd own
faultless (Err fault) own = (refl, λ e. absurd cc)

module _ {F S A : Type 0} (r : Range) (sense : S → ℕ → Reading A) (by : List ℕ → Result A EditFault) (IsBefore : ℕ → S → Type 0) (w : Walking) (s : S) (old now : Pages F) (lies : LiesOn r old.device) (i : Surveying r sense by IsBefore w s old now) where
  abbrev x : List ℕ
  x = bytes_in r old.device.content

  answered : (a : StepResult) → IsTrue old.device.honest → a ≡ answer_at (bytes_in w.region now.device.content) w.at
      → (a ≡ answer_at x w.at) × (by x ≡ found_by x (sense s w.at) a)
  answered a h is =
      let len : length x ≡ r.size = length-bytes_in r old.device.content lies.inside in
      let here : a ≡ answer_at x w.at = is ∙ ap (λ (k : Range). answer_at (bytes_in k now.device.content) w.at) i.region ∙ ap (λ (l : List ℕ). answer_at (bytes_in r l) w.at) (i.read.device.unchanged h) in
      (here, i.so_far h ∙ found_step x (sense s w.at) w.at (omega (arith, len, i.inside)) i.aligned ∙ ap (λ (b : StepResult). found_by x (sense s w.at) b) (sym here))

  -- a cell, and the search after it
  pub surveying_more : (c : Cell) (v : Walking) (t : S) (mid new : Pages F) (n : ℕ) → IsCellIn w.region.size c × (c.at ≡ w.at)
      → HasRead n 0 now mid → n ≡ reads_over c.span → HasRead 1 0 mid new
      → (IsTrue now.device.honest → w.ended ≡ None → (let a : StepResult = Ok (steps.Cell c) in IsErrOf a walk.Device ⊎ (a ≡ answer_at (bytes_in w.region now.device.content) w.at)))
      → v ≡ record w { at = w.at + c.span; steps = w.steps + 1 }
      → IsBefore (c.at + c.span) t
      → (IsTrue mid.device.honest → StandsIn (bytes_in r mid.device.content) c → (cells : List (List ℕ)) → sense s c.at (cell_in (bytes_in r mid.device.content) c ∷ cells) ≡ sense t (c.at + c.span) cells)
      → Surveying r sense by IsBefore v t old new
  unfolding found_from
  surveying_more c v t mid new n given reads few more answer moved before pass = rw moved (record {
    region = i.region;
    going = i.going;
    inside = omega (arith, cell_of_region.inside, given.1);
    aligned = omega (arith, i.aligned, given.0.whole);
    read = HasRead-within (w.at / 16 + (n + 1)) ((w.at + c.span) / 16) 0 old new (omega (arith, few, given.0.positive)) (HasRead-then (w.at / 16) (n + 1) 0 old now new i.read (HasRead-then n 1 0 now mid new reads more));
    before = subst (λ k. IsBefore (k + c.span) t) given.1 before;
    so_far = λ h.
        let k = honest_still i.read.device.calls.same_honesty h in
        let same : mid.device.content ≡ old.device.content = reads.device.unchanged k ∙ i.read.device.unchanged h in
        let told = answered (Ok (steps.Cell c)) h (told_step _ _ (answer k i.going)) in
        let stands : StandsIn x c = ap (λ p. answer_at x p) given.1 ∙ sym told.0 in
        let next = fun_ext ((rw same at (pass (honest_still reads.device.calls.same_honesty k))) stands) in
        told.1
        ∙ ap (λ p. found_from x (λ cells. sense s p (cell_in x c ∷ cells)) (c.at + c.span)) (sym given.1)
        ∙ ap (λ (read : Reading A). found_from x read (c.at + c.span)) next
        ∙ ap (λ p. found_from x (sense t (p + c.span)) (p + c.span)) given.1;
  })
    where
      cell_of_region : IsCellIn r.size c
      cell_of_region = rw i.region at given.0

  -- ---- an ended walk

  module _ (step : Step) (last : IsLast step) where
    last_found : found_by x (sense s w.at) (Ok step) ≡ sense s w.at []
    last_found = ⊎_elim (λ tail. ap (λ (t : Step). found_by x (sense s w.at) (Ok t)) tail.1) (λ end. ap (λ (t : Step). found_by x (sense s w.at) (Ok t)) end) last

    pub searched : (Is : A → Type 0) (mid : Pages F) (result : Result A EditFault) → IfErr result IsOwn → IfOk result Is → result ≡ sense s w.at [] → HasRead (reads_at w.region.size w.at (Ok step)) 0 now mid
        → (IsTrue now.device.honest → w.ended ≡ None → (let a : StepResult = Ok step in IsErrOf a walk.Device ⊎ (a ≡ answer_at (bytes_in w.region now.device.content) w.at))) → HasSearched by r Is old mid result
    searched Is mid result own found is reading answer = record {
      after = rw (faultless result own).0 (HasRead-within (w.at / 16 + reads_over (w.region.size - w.at)) (r.size / 16 + 1) 0 old mid (omega (arith, i.inside, i.aligned, ap (λ (k : Range). k.size) i.region))
          (HasRead-then (w.at / 16) (reads_over (w.region.size - w.at)) 0 old now mid i.read (rw (last_reads step w.region.size w.at last) at reading)));
      no_source = (faultless result own).1;
      found = found;
      answer = λ h. inr (is ∙ sym ((answered (Ok step) h (told_step _ _ (answer (honest_still i.read.device.calls.same_honesty h) i.going))).1 ∙ last_found));
    }

  pub surveying_err : (fault : WalkFault) → (answer : IsTrue now.device.honest → w.ended ≡ None → (let a : StepResult = Err fault in IsErrOf a walk.Device ⊎ (a ≡ answer_at (bytes_in w.region now.device.content) w.at)))
      → IsTrue old.device.honest → (let a : Result A EditFault = Err (edit_fault_of fault) in IsErrOf a faults.Device ⊎ (a ≡ by x))
  surveying_err fault answer h =
      ⊎_elim (λ device. let is : fault ≡ walk.Device = cc in inl (ap (λ (f : WalkFault). let a : Result A EditFault = Err (edit_fault_of f) in a) is))
      (λ is. inr (sym ((answered (Err fault) h is).1 ∙ found_refusal x (sense s w.at) fault)))
      (answer (honest_still i.read.device.calls.same_honesty h) i.going)

-- ---- the search for a group

pub group_searched : (x name : List ℕ) → removal_in x name ≡ unless_unsound x (group_by name (Looking 0) 0 (cut x).cells)
unfolding removal_in
group_searched x name = refl

-- ---- the search for a place

abbrev pub nothing_passed : Survey
nothing_passed = record { row = record { start = 0; end = 0 }; exists = false; place = None }

or_found : (e b : Bool) (c : Component) (rest : Option Component) → (e || is_some (cond b (Some c) rest)) ≡ ((e || b) || is_some rest)
or_found true b c rest = refl
or_found false true c rest = refl
or_found false false c rest = refl

or_first : (o : Option Place) (places : List Place) → slice_get (cons_option o places) 0 ≡ option_or o (slice_get places 0)
or_first None places = refl
or_first (Some place) places = refl

or_run : (wanted : Wanted) (size : ℕ) (p : Option Place) (b : Bool) (run : CellRange) (later : List CellRange)
    → option_or p (first_place wanted size (cond b (run ∷ later) later)) ≡ option_or (option_or p (cond b (place_in wanted size run) None)) (first_place wanted size later)
or_run wanted size (Some place) b run later = refl
or_run wanted size None true run later = or_first (place_in wanted size run) (filter_map (place_in wanted size) later)
or_run wanted size None false run later = refl

or_nothing : (p : Option Place) → option_or p None ≡ p
or_nothing None = refl
or_nothing (Some place) = refl

-- the first place so far, at the end of the free cells
abbrev closed : Wanted → ℕ → Survey → Option Place
closed wanted size s = option_or s.place (cond (nat_lt s.row.start s.row.end) (place_in wanted size s.row) None)

-- over a free cell
pub free_step : (name : List ℕ) (wanted : Wanted) (size : ℕ) (s : Survey) (c : List ℕ) (cells : List (List ℕ)) (span : ℕ) → is_free (head_of c) ≡ true → length c ≡ span
    → place_by name wanted size s (c ∷ cells) ≡ place_by name wanted size (record { row = record { start = s.row.start; end = s.row.end + span }; exists = s.exists; place = s.place }) cells
unfolding components_from runs_from
free_step name wanted size s c cells span free long = rw (free, long) refl

-- over a component
pub place_step : (name : List ℕ) (wanted : Wanted) (size : ℕ) (s : Survey) (c : List ℕ) (cells : List (List ℕ)) (span : ℕ) (named : Bool) (place : Option Place)
    → is_free (head_of c) ≡ false → length c ≡ span → named ≡ bytes_eq (cell_name c) name → place ≡ closed wanted size s
    → place_by name wanted size s (c ∷ cells) ≡ place_by name wanted size (record { row = record { start = s.row.end + span; end = s.row.end + span }; exists = s.exists || named; place = place }) cells
unfolding components_from runs_from
place_step name wanted size s c cells span named place used long is_named is_place =
    let next = s.row.end + span in
    rw (used, long, is_named, is_place) (
    ap (λ b. cond b (Err faults.Exists) (ok_or (option_or s.place (first_place wanted size (add_run s.row.start s.row.end (runs_from next next cells)))) faults.NoSpace))
    (or_found s.exists (bytes_eq (cell_name c) name) (component_at s.row.end c) (first_named name (components_from next cells)))
    ∙ ap (λ (p : Option Place). cond ((s.exists || bytes_eq (cell_name c) name) || is_some (first_named name (components_from next cells))) (Err faults.Exists) (ok_or p faults.NoSpace))
    (or_run wanted size s.place (nat_lt s.row.start s.row.end) s.row (runs_from next next cells))
    )

-- at the end of the cells
pub no_place_left : (name : List ℕ) (wanted : Wanted) (size : ℕ) (s : Survey) (place : Option Place) → s.exists ≡ false → place ≡ closed wanted size s → ok_or place faults.NoSpace ≡ place_by name wanted size s []
unfolding components_from runs_from
no_place_left name wanted size s place none is =
    rw none (ap (λ (p : Option Place). ok_or p faults.NoSpace) (is ∙ sym (or_run wanted size s.place (nat_lt s.row.start s.row.end) s.row [] ∙ or_nothing (closed wanted size s))))

pub place_searched : (x name : List ℕ) (wanted : Wanted) (size : ℕ) → length x ≡ size → placing_in x name wanted ≡ unless_unsound x (place_by name wanted size nothing_passed (cut x).cells)
unfolding placing_in
place_searched x name wanted size is = ap (λ n. unless_unsound x (place_by name wanted n nothing_passed (cut x).cells)) is
