-- A walk that passes the metadata of cells to a hasher.
use Rattle.std.proofs.Common.{◌≡◌, ℕ, ◌+◌, ◌-◌, ◌/◌, ◌%◌, ◌≤◌, ◌⊎◌, ⊎_elim, inl, inr, IsTrue, List, [], ◌∷◌, ◌++◌, length, Option, Some, None, Result, Ok, Err, refl, sym, ap, ◌∙◌, arith, Bool, true, false, cond, append_assoc}
use Rattle.std.specs.Prelude.{IsErrOf, MatchResult}
use Rattle.std.specs.Option.{option_map_or, option_or}
use Rattle.std.specs.Result.{result_map_both}
use Rattle.std.proofs.lemmas.List.{append-nil}
use Rattle.flash_format.specs.Head.{head_of, is_free}
use Rattle.flash_format.specs.Components.{Component, component_at, components_from}
use Rattle.flash_device.specs.Device.{fault_count}
use Rattle.flash_device.specs.Pages.{Pages, HasRead}
use Rattle.flash_device.specs.Regions.{Range, LiesOn, bytes_in}
use Rattle.flash_device.proofs.WindowLemmas.{HasRead-none, HasRead-then, HasRead-within}
use Rattle.flash_device.proofs.DeviceLemmas.{honest_still, length-bytes_in}
use Rattle.cbfs_walk.specs.Cells.{IsCellIn, cell_in}
use Rattle.cbfs_walk.specs.Walks.{reads_over, StepResult, Walking, answer_at, reads_at, StandsIn}
use Rattle.cbfs_walk.specs.Walks as walks
use Rattle.cbfs_walk.specs.CellReadings.{reading_of, by_answer, place_after, ReadsCells}
use Rattle.cbfs_walk.specs.Search.{not_found}
use Rattle.cbfs_walk.specs.declared.cell.Cell.{Cell}
use Rattle.cbfs_walk.specs.declared.walk.Step.{Step}
use Rattle.cbfs_walk.specs.declared.walk.WalkFault.{WalkFault}
use Rattle.cbfs_walk.specs.declared.walk.Step.TheVariants as steps
use Rattle.cbfs_walk.specs.declared.walk.WalkFault.TheVariants as walk
use Rattle.cbfs_walk.proofs.Shapes.{shaped_step}
use Rattle.cbfs_walk.proofs.StepResults.{IsLast, last_reads}
use Rattle.cbfs_anchor.specs.declared.algorithm.Algorithm.{Algorithm}
use Rattle.cbfs_anchor.specs.declared.demand.Demand.{Demand}
use Rattle.cbfs_anchor.specs.declared.hasher.Hasher.{Hasher}
use Rattle.cbfs_anchor.specs.declared.fault.SealFault.{SealFault}
use Rattle.cbfs_anchor.specs.declared.fault.SealFault.TheVariants as faults
use Rattle.cbfs_anchor.specs.Algorithms.{Holds, algorithm_of}
use Rattle.cbfs_anchor.specs.Faults.{and_then, by_device, walk_fault}
use Rattle.cbfs_anchor.specs.Metadata.{all_metadata, cell_metadata, component_fault, component_metadata, first_fault, metadata, metadata_from, metadata_in}

abbrev Message : Type 0
Message = Result (List ℕ) SealFault

-- after earlier metadata
abbrev pub prefixed : List ℕ → Message → Message
prefixed done rest = result_map_both (λ more. done ++ more) (λ fault. fault) rest

prefixed-none : (rest : Message) → prefixed [] rest ≡ rest
prefixed-none (Ok more) = refl
prefixed-none (Err fault) = refl

prefixed-twice : (done more : List ℕ) (rest : Message) → prefixed done (prefixed more rest) ≡ prefixed (done ++ more) rest
prefixed-twice done more (Ok last) = ap (λ l. Ok l) (sym (append_assoc done more last))
prefixed-twice done more (Err fault) = refl

-- ---- cell by cell

abbrev by_fault : Option SealFault → Message → Message
by_fault o rest = option_map_or (λ fault. Err fault) o rest

abbrev ended : List ℕ → Result (Option Component) WalkFault → Message
ended message end = result_map_both (λ none. message) walk_fault end

over_component : (d m : List ℕ) (later : Option SealFault) (end : Result (Option Component) WalkFault) → by_fault later (ended (d ++ m) end) ≡ prefixed d (by_fault later (ended m end))
over_component d m (Some fault) end = refl
over_component d m None (Ok none) = refl
over_component d m None (Err fault) = refl

with_component : (d m : List ℕ) (here later : Option SealFault) (end : Result (Option Component) WalkFault)
    → by_fault (option_or here later) (ended (d ++ m) end) ≡ and_then (by_fault here (Ok d)) (λ more. prefixed more (by_fault later (ended m end)))
with_component d m (Some fault) later end = refl
with_component d m None later end = over_component d m later end

abbrev pub each_cell : Demand → Algorithm → List ℕ → Cell → Message → Message
each_cell demand a bytes c rest = and_then (cell_metadata demand a c.at bytes) (λ more. prefixed more rest)

-- over a cell, by whether it is free
cell_law : (demand : Demand) (a : Algorithm) (free : Bool) (it : Component) (others : List Component) (end : Result (Option Component) WalkFault)
    → (let all = cond free others (it ∷ others) in by_fault (first_fault demand a all) (ended (all_metadata all) end))
    ≡ and_then (cond free (Ok []) (component_metadata demand a it)) (λ more. prefixed more (by_fault (first_fault demand a others) (ended (all_metadata others) end)))
unfolding first_fault all_metadata
cell_law demand a true it others end = sym (prefixed-none _)
cell_law demand a false it others end = with_component (metadata it) (all_metadata others) (component_fault demand a it) (first_fault demand a others) end

read_cells : (demand : Demand) (a : Algorithm) → ReadsCells (metadata_from demand a) (each_cell demand a)
unfolding components_from
read_cells demand a at c k = cell_law demand a (is_free (head_of c)) (component_at at c) (components_from (at + length c) k.cells) (not_found (place_after (at + length c) k.cells) k.end)

-- the metadata from a position on
pub metadata_left : Demand → Algorithm → List ℕ → ℕ → Message
metadata_left demand a x at = reading_of (λ fault. Err (walk_fault fault)) (metadata_from demand a) x at

metadata_whole : (demand : Demand) (a : Algorithm) (x : List ℕ) → metadata_in demand a x ≡ prefixed [] (metadata_left demand a x 0)
unfolding metadata_in metadata_left reading_of
metadata_whole demand a x = sym (prefixed-none _)

-- by the walk's result
abbrev left_by : Demand → Algorithm → List ℕ → StepResult → Message
left_by demand a x answer = by_answer (λ fault. Err (walk_fault fault)) (metadata_from demand a) (each_cell demand a) x answer

left_step : (demand : Demand) (a : Algorithm) (x : List ℕ) (at : ℕ) → at ≤ length x → at % 64 ≡ 0 → metadata_left demand a x at ≡ left_by demand a x (answer_at x at)
unfolding metadata_left
left_step demand a x at inside aligned = shaped_step (λ fault. Err (walk_fault fault)) (metadata_from demand a) (each_cell demand a) (read_cells demand a) x at inside aligned

left_cell : (demand : Demand) (a : Algorithm) (x : List ℕ) (c : Cell) → left_by demand a x (Ok (steps.Cell c)) ≡ each_cell demand a (cell_in x c) c (metadata_left demand a x (c.at + c.span))
unfolding metadata_left
left_cell demand a x c = refl

left_end : (demand : Demand) (a : Algorithm) (x : List ℕ) (step : Step) → IsLast step → left_by demand a x (Ok step) ≡ Ok []
unfolding components_from first_fault all_metadata
left_end demand a x step (inl tail) = ap (λ (s : Step). left_by demand a x (Ok s)) tail.1
left_end demand a x step (inr end) = ap (λ (s : Step). left_by demand a x (Ok s)) end

left_fault : (demand : Demand) (a : Algorithm) (x : List ℕ) (fault : WalkFault) → left_by demand a x (Err fault) ≡ Err (walk_fault fault)
unfolding components_from first_fault all_metadata
left_fault demand a x (walk.Damaged at kind) = refl
left_fault demand a x walk.Device = refl
left_fault demand a x walk.RegionShape = refl
left_fault demand a x walk.NotCbfs = refl

-- ---- the loop

-- the hasher has received the metadata up to a position
pub record Gathered (demand : Demand) (a : Algorithm) (x : List ℕ) (at : ℕ) (hasher : Hasher) : Type 0 where
  pub done : List ℕ
  pub holds : Holds hasher done
  pub whole : metadata_in demand a x ≡ prefixed done (metadata_left demand a x at)

pub record Gathering {F : Type 0} (demand : Demand) (a : Algorithm) (r : Range) (w : Walking) (hasher : Hasher) (old now : Pages F) : Type 0 where
  pub region : w.region ≡ r
  pub going : w.ended ≡ None
  pub inside : w.at ≤ r.size
  pub aligned : w.at % 64 ≡ 0
  pub read : HasRead (w.at / 16) 0 old now
  pub algorithm : algorithm_of hasher ≡ a
  pub so_far : IsTrue old.device.honest → Gathered demand a (bytes_in r old.device.content) w.at hasher

pub gathering_start : {F : Type 0} (demand : Demand) (a : Algorithm) (r : Range) (hasher : Hasher) (old : Pages F) → algorithm_of hasher ≡ a → Holds hasher []
    → Gathering demand a r (record { region = r; at = 0; steps = 0; ended = None }) hasher old old
gathering_start demand a r hasher old is empty = record {
  region = refl;
  going = refl;
  inside = omega arith;
  aligned = refl;
  read = HasRead-within 0 (0 / 16) 0 old old (omega arith) (HasRead-none old);
  algorithm = is;
  so_far = λ h. record { done = []; holds = empty; whole = metadata_whole demand a (bytes_in r old.device.content) };
}

told_step : (s : Step) (b : StepResult) → (let a : StepResult = Ok s in IsErrOf a walk.Device ⊎ (a ≡ b)) → Ok s ≡ b
told_step s b (inl e) = absurd cc
told_step s b (inr e) = e

-- a cell's part of the metadata
abbrev pub HasHashed : {T : Type 0} → Result T SealFault → Message → List ℕ → Hasher → Type 0
HasHashed result its message hasher = MatchResult result
    (λ done. (more : List ℕ) × Holds hasher (message ++ more) × (its ≡ Ok more))
    (λ fault. (fault ≡ faults.Device) ⊎ (its ≡ Err fault))

module _ {F : Type 0} (demand : Demand) (a : Algorithm) (r : Range) (w : Walking) (hasher : Hasher) (old now : Pages F) (lies : LiesOn r old.device) (i : Gathering demand a r w hasher old now) where
  abbrev x : List ℕ
  x = bytes_in r old.device.content

  answered : (answer : StepResult) → IsTrue old.device.honest → answer ≡ answer_at (bytes_in w.region now.device.content) w.at
      → (answer ≡ answer_at x w.at) × (metadata_left demand a x w.at ≡ left_by demand a x answer)
  answered answer h is =
      let len : length x ≡ r.size = length-bytes_in r old.device.content lies.inside in
      let here : answer ≡ answer_at x w.at = is ∙ ap (λ (k : Range). answer_at (bytes_in k now.device.content) w.at) i.region ∙ ap (λ (l : List ℕ). answer_at (bytes_in r l) w.at) (i.read.device.unchanged h) in
      (here, left_step demand a x w.at (omega (arith, len, i.inside)) i.aligned ∙ ap (λ (b : StepResult). left_by demand a x b) (sym here))

  module _ (c : Cell) (mid : Pages F) (n : ℕ) (given : IsCellIn w.region.size c × (c.at ≡ w.at)) (reads : HasRead n 0 now mid) (few : n ≡ reads_over c.span)
      (answer : IsTrue now.device.honest → w.ended ≡ None → (let b : StepResult = Ok (steps.Cell c) in IsErrOf b walk.Device ⊎ (b ≡ answer_at (bytes_in w.region now.device.content) w.at))) where
    -- the cell in the old device
    cell_told : IsTrue old.device.honest → (Ok (steps.Cell c) ≡ answer_at x w.at) × (metadata_left demand a x w.at ≡ left_by demand a x (Ok (steps.Cell c)))
    cell_told h = answered (Ok (steps.Cell c)) h (told_step _ _ (answer (honest_still i.read.device.calls.same_honesty h) i.going))

    stands : IsTrue old.device.honest → StandsIn x c
    stands h = ap (λ p. answer_at x p) given.1 ∙ sym (cell_told h).0

    same : IsTrue old.device.honest → mid.device.content ≡ old.device.content
    same h = reads.device.unchanged (honest_still i.read.device.calls.same_honesty h) ∙ i.read.device.unchanged h

    still : IsTrue old.device.honest → IsTrue mid.device.honest
    still h = honest_still reads.device.calls.same_honesty (honest_still i.read.device.calls.same_honesty h)

    module _ {T : Type 0} (result : Result T SealFault) (later : Hasher) (new : Pages F) (more : HasRead (3 + c.span / 3840) (fault_count by_device result) mid new)
        (hashed : IsTrue mid.device.honest → StandsIn (bytes_in r mid.device.content) c → (message : List ℕ) → Holds hasher message → HasHashed result (cell_metadata demand a c.at (cell_in (bytes_in r mid.device.content) c)) message later) where
      told : (h : IsTrue old.device.honest) → HasHashed result (cell_metadata demand a c.at (cell_in x c)) (i.so_far h).done later
      told h = (rw (same h) at (hashed (still h))) (stands h) (i.so_far h).done (i.so_far h).holds

      read_more : HasRead (w.at / 16 + (n + (3 + c.span / 3840))) (fault_count by_device result) old new
      read_more = HasRead-then (w.at / 16) (n + (3 + c.span / 3840)) (fault_count by_device result) old now new i.read (HasRead-then n (3 + c.span / 3840) (fault_count by_device result) now mid new reads more)

      -- the metadata of the region, by the cell's
      whole : (h : IsTrue old.device.honest) → metadata_in demand a x ≡ prefixed (i.so_far h).done (each_cell demand a (cell_in x c) c (metadata_left demand a x (c.at + c.span)))
      whole h = (i.so_far h).whole ∙ ap (prefixed (i.so_far h).done) ((cell_told h).1 ∙ left_cell demand a x c)

    -- after the cell
    pub gathering_more : {T : Type 0} (done : T) (v : Walking) (later : Hasher) (new : Pages F) → HasRead (3 + c.span / 3840) 0 mid new → v ≡ record w { at = w.at + c.span; steps = w.steps + 1 }
        → algorithm_of later ≡ algorithm_of hasher
        → (IsTrue mid.device.honest → StandsIn (bytes_in r mid.device.content) c → (message : List ℕ) → Holds hasher message → HasHashed (let b : Result T SealFault = Ok done in b) (cell_metadata demand a c.at (cell_in (bytes_in r mid.device.content) c)) message later)
        → Gathering demand a r v later old new
    gathering_more {T} done v later new more moved kind hashed = rw moved (record {
      region = i.region;
      going = i.going;
      inside = omega (arith, cell_of_region.inside, given.1);
      aligned = omega (arith, i.aligned, given.0.whole);
      read = HasRead-within (w.at / 16 + (n + (3 + c.span / 3840))) ((w.at + c.span) / 16) 0 old new (omega (arith, few, given.0.positive, given.0.whole)) (read_more (let b : Result T SealFault = Ok done in b) later new more hashed);
      algorithm = kind ∙ i.algorithm;
      so_far = λ h.
          let t = told (let b : Result T SealFault = Ok done in b) later new more hashed h in
          let before = (i.so_far h).done in
          let rest = metadata_left demand a x (c.at + c.span) in
          record {
            done = before ++ t.0;
            holds = t.1;
            whole =
                whole (let b : Result T SealFault = Ok done in b) later new more hashed h
                ∙ ap (λ (m : Message). prefixed before (and_then m (λ d. prefixed d rest))) t.2
                ∙ prefixed-twice before t.0 rest
                ∙ ap (λ p. prefixed (before ++ t.0) (metadata_left demand a x (p + c.span))) given.1;
          };
    })
      where
        cell_of_region : IsCellIn r.size c
        cell_of_region = rw i.region at given.0

    -- a fault at the cell
    pub gathering_refused : (T : Type 0) (fault : SealFault) (later : Hasher) (new : Pages F) → HasRead (3 + c.span / 3840) (by_device fault) mid new
        → (IsTrue mid.device.honest → StandsIn (bytes_in r mid.device.content) c → (message : List ℕ) → Holds hasher message → HasHashed (let b : Result T SealFault = Err fault in b) (cell_metadata demand a c.at (cell_in (bytes_in r mid.device.content) c)) message later)
        → HasRead (r.size / 16 + 2) (by_device fault) old new × (IsTrue old.device.honest → (fault ≡ faults.Device) ⊎ (metadata_in demand a x ≡ Err fault))
    gathering_refused T fault later new more hashed = (
      HasRead-within (w.at / 16 + (n + (3 + c.span / 3840))) (r.size / 16 + 2) (by_device fault) old new (omega (arith, few, given.0.positive, given.0.whole, given.0.inside, given.1, i.inside, ap (λ (k : Range). k.size) i.region)) (read_more (let b : Result T SealFault = Err fault in b) later new more hashed),
      λ h. ⊎_elim (λ device. inl device)
          (λ is. inr (whole (let b : Result T SealFault = Err fault in b) later new more hashed h ∙ ap (λ (m : Message). prefixed (i.so_far h).done (and_then m (λ d. prefixed d (metadata_left demand a x (c.at + c.span))))) is))
          (told (let b : Result T SealFault = Err fault in b) later new more hashed h),
    )

  -- ---- an ended walk

  pub gathered : (step : Step) → IsLast step → (mid : Pages F) → HasRead (reads_at w.region.size w.at (Ok step)) 0 now mid
      → (IsTrue now.device.honest → w.ended ≡ None → (let b : StepResult = Ok step in IsErrOf b walk.Device ⊎ (b ≡ answer_at (bytes_in w.region now.device.content) w.at)))
      → HasRead (r.size / 16 + 2) 0 old mid × (IsTrue old.device.honest → (message : List ℕ) × Holds hasher message × (metadata_in demand a x ≡ Ok message))
  gathered step last mid reading answer = (
    HasRead-within (w.at / 16 + reads_over (w.region.size - w.at)) (r.size / 16 + 2) 0 old mid (omega (arith, i.inside, i.aligned, ap (λ (k : Range). k.size) i.region))
        (HasRead-then (w.at / 16) (reads_over (w.region.size - w.at)) 0 old now mid i.read (rw (last_reads step w.region.size w.at last) at reading)),
    λ h.
        let found = answered (Ok step) h (told_step _ _ (answer (honest_still i.read.device.calls.same_honesty h) i.going)) in
        ((i.so_far h).done, (i.so_far h).holds, (i.so_far h).whole ∙ ap (prefixed (i.so_far h).done) (found.1 ∙ left_end demand a x step last) ∙ ap (λ l. Ok l) (append-nil (i.so_far h).done)),
  )

  pub gathering_err : (fault : WalkFault) (mid : Pages F) → HasRead (reads_at w.region.size w.at (Err fault)) (walks.by_device fault) now mid
      → (IsTrue now.device.honest → w.ended ≡ None → (let b : StepResult = Err fault in IsErrOf b walk.Device ⊎ (b ≡ answer_at (bytes_in w.region now.device.content) w.at)))
      → HasRead (r.size / 16 + 2) (by_device (walk_fault fault)) old mid × (IsTrue old.device.honest → (walk_fault fault ≡ faults.Device) ⊎ (metadata_in demand a x ≡ Err (walk_fault fault)))
  gathering_err fault mid reading answer = (
    rw (faults_same fault) (HasRead-within (w.at / 16 + reads_over (w.region.size - w.at)) (r.size / 16 + 2) (walks.by_device fault) old mid (omega (arith, i.inside, i.aligned, ap (λ (k : Range). k.size) i.region))
        (HasRead-then (w.at / 16) (reads_over (w.region.size - w.at)) (walks.by_device fault) old now mid i.read reading)),
    λ h. ⊎_elim (λ device. let is : fault ≡ walk.Device = cc in inl (ap walk_fault is))
        (λ is.
        let found = answered (Err fault) h is in
        inr ((i.so_far h).whole ∙ ap (prefixed (i.so_far h).done) (found.1 ∙ left_fault demand a x fault)))
        (answer (honest_still i.read.device.calls.same_honesty h) i.going),
  )
    where
      faults_same : (f : WalkFault) → by_device (walk_fault f) ≡ walks.by_device f
      faults_same walk.Device = refl
      faults_same walk.RegionShape = refl
      faults_same walk.NotCbfs = refl
      faults_same (walk.Damaged at kind) = refl
