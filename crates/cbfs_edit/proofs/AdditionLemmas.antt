-- An accepted addition: its place, its effect and its calls.
use Rattle.std.proofs.Common.{◌≡◌, inl, inr, ℕ, ◌+◌, ◌-◌, ◌%◌, ◌^◌, ◌<◌, ◌≤◌, Bool, true, false, cond, eqb, ltb, ◌||◌, List, [], ◌∷◌, ◌++◌, length, drop, Contains, Option, Some, None, Ok, sym, ◌∙◌, ap, subst, refl, arith, length-append, IsTrue, ◌⊎◌, ⊎_elim, Result, Err}
use Rattle.std.specs.Prelude.{◌==◌, IsErrOf, OnOk, slice_range, max, min}
use Rattle.std.specs.List.{list_any}
use Rattle.std.proofs.lemmas.Bool.{cond_both, eqb-false, eqb-true, ltb-false, or_parts}
use Rattle.std.proofs.lemmas.List.Elements.{Contains-append_right}
use Rattle.flash_format.specs.Entry.{is_nul}
use Rattle.flash_format.specs.Made.{empty_entry, IsDigest, IsMade, made_metadata}
use Rattle.flash_format.specs.Cut.{cut}
use Rattle.flash_format.specs.Components.{components}
use Rattle.flash_format.specs.Placings.{HasOneMoreComponent, IsFreeSpace, space_cells}
use Rattle.flash_format.proofs.MadeLaws.{made_as_long, made_alone}
use Rattle.flash_format.proofs.Placings.{IsPlacing, one_more-end, empty_is_space, components_placed}
use Rattle.flash_device.specs.Device.{Device, SameOutside, overwritten}
use Rattle.flash_device.proofs.BytesLemmas.{SameOutside-overwritten, further, length-overwritten}
use Rattle.cbfs_edit.specs.Removals.{IsCellRange, kept_at, removed, space_end}
use Rattle.cbfs_edit.specs.Places.{runs}
use Rattle.cbfs_edit.specs.Places.{is_bad_align, IsFirstPlace, placing_in}
use Rattle.cbfs_edit.specs.Places.{LiesInItsRun}
use Rattle.cbfs_edit.specs.Changes.{IsAddition, AddLeavesBefore, AddLeavesWhole, IsEmptied, copy_edit_fault}
use Rattle.cbfs_edit.specs.Additions.{NewComponent, added, added_component, addition_in, empty_between, cell_end, metadata_len_of, made_at, argument_fault, wanted_for, algorithm_of, digest_of}
use Rattle.cbfs_edit.specs.Laws.{IsAdded}
use Rattle.cbfs_edit.specs.declared.fault.EditFault.{EditFault}
use Rattle.cbfs_edit.specs.declared.group.CellRange.{CellRange}
use Rattle.cbfs_edit.specs.declared.place.Spot.{Spot}
use Rattle.cbfs_edit.specs.declared.place.Wanted.{Wanted}
use Rattle.cbfs_edit.specs.declared.place.Place.{Place}
use Rattle.cbfs_edit.proofs.Places.{IsPlaceAmong, IsAnsweredPlace, answered_place, fits_there, first_place-right}
use Rattle.cbfs_edit.proofs.Lists.{content_at}
use Rattle.cbfs_edit.proofs.Runs.{IsRun, run_of, emptied_runs}
use Rattle.cbfs_edit.proofs.EmptyEntries.{IsOldOrEmptied, emptied-wider, old_or-wider, same_region_length, space_end-below, space_end-near, as_splice, emptied-stopped}
use Rattle.cbfs_edit.proofs.Changes.{keeps}
use Rattle.cbfs_edit.proofs.Insertions.{added-last, with_content, written_long}
use Rattle.std.specs.Option.{option_map_or}
use Rattle.flash_format.specs.declared.digest.Digest.{Digest}
use Rattle.cbfs_edit.proofs.Removals.{image_of}
use Rattle.flash_device.specs.Regions.{Range, LiesOn, bytes_in}
use Rattle.flash_device.specs.declared.paged.CopyInFault.{CopyInFault}
use Rattle.flash_device.proofs.DeviceLemmas.{length-bytes_in}
use Rattle.std.specs.Option.{option_map}
use Rattle.flash_format.specs.declared.digest.Algorithm.{Algorithm}
use Rattle.cbfs_walk.specs.Hashes.{hashed_by}
use Rattle.cbfs_walk.proofs.Digests.{length-hashed}
use Rattle.cbfs_edit.specs.declared.addition.HashChoice.{HashChoice}
use Rattle.cbfs_edit.specs.declared.fault.EditFault.TheVariants as faults
use Rattle.flash_device.specs.declared.paged.CopyInFault.TheVariants as copies

-- after the caller's own checks
pub own-is : (x : List ℕ) (new : NewComponent) (spot : Spot) (own : Option EditFault) → own ≡ argument_fault new.name new.kind spot → option_map_or (λ fault. Err fault) own (placing_in x new.name (wanted_for new spot)) ≡ addition_in x new spot
unfolding addition_in
own-is x new spot own is = ap (λ (o : Option EditFault). option_map_or (λ fault. Err fault) o (placing_in x new.name (wanted_for new spot))) is

-- ---- an accepted addition

record IsAccepted (x : List ℕ) (new : NewComponent) (spot : Spot) (place : Place) : Type 0 where
  name_short : length new.name ≤ 127
  name_plain : list_any is_nul new.name ≡ false
  kind_good : (new.kind == 0 || new.kind == 0xffffffff) ≡ false
  spot_good : is_bad_align spot ≡ false
  placed : placing_in x new.name (wanted_for new spot) ≡ Ok place

accepted : (x : List ℕ) (new : NewComponent) (spot : Spot) (place : Place) → addition_in x new spot ≡ Ok place → IsAccepted x new spot place
unfolding addition_in
accepted x new spot place is = go (eqb (length new.name) 0 || ltb 127 (length new.name) || list_any is_nul new.name) (new.kind == 0 || new.kind == 0xffffffff) (is_bad_align spot) refl refl refl is
  where
    go : (n k s : Bool) → (eqb (length new.name) 0 || ltb 127 (length new.name) || list_any is_nul new.name) ≡ n → (new.kind == 0 || new.kind == 0xffffffff) ≡ k → is_bad_align spot ≡ s
        → option_map_or (λ fault. Err fault) (cond n (Some faults.BadName) (cond k (Some faults.BadType) (cond s (Some faults.BadAlign) None))) (placing_in x new.name (wanted_for new spot)) ≡ Ok place → IsAccepted x new spot place
    go true k s e f h p = absurd cc
    go false true s e f h p = absurd cc
    go false false true e f h p = absurd cc
    go false false false e f h p =
        let name = or_parts (eqb (length new.name) 0 || ltb 127 (length new.name)) (list_any is_nul new.name) e in
        record {
          name_short = ltb-false 127 (length new.name) (or_parts (eqb (length new.name) 0) (ltb 127 (length new.name)) name.0).1;
          name_plain = name.1;
          kind_good = f;
          spot_good = h;
          placed = p;
        }

pub accepted_size : (x : List ℕ) (new : NewComponent) (spot : Spot) (place : Place) → addition_in x new spot ≡ Ok place → length x % 64 ≡ 0
accepted_size x new spot place is = (answered_place x new.name (wanted_for new spot) place (accepted x new spot place is).placed).sound.whole

-- the space between two offsets
space : (x : List ℕ) (start end : ℕ) → start ≤ end → start % 64 ≡ 0 → end % 64 ≡ 0 → 4 ≤ length x → IsFreeSpace (end - start) (empty_between x start end)
space x start end order start_aligned end_aligned some =
    cond_both (start == end) [] (empty_entry (end - start) (kept_at x end)) (λ (l : List ℕ). IsFreeSpace (end - start) l)
    (λ e. let same : start ≡ end = eqb-true start end e in record { long = omega arith; header = λ positive. absurd (omega (arith, positive, same)) })
    (λ e. empty_is_space (end - start) (kept_at x end) (omega (arith, eqb-false start end e, order, start_aligned, end_aligned)) (keeps x end some))

module _ (x : List ℕ) (new : NewComponent) (spot : Spot) (place : Place) (is : IsAdded x new spot place) where
  abbrev end : ℕ
  end = cell_end new place

  fine : IsAccepted x new spot place
  fine = accepted x new spot place is.placed

  pub there : IsAnsweredPlace x new.name (wanted_for new spot) place
  there = answered_place x new.name (wanted_for new spot) place fine.placed

  first : IsFirstPlace (wanted_for new spot) (length x) (runs x) place
  first =
      subst (λ (o : Option Place). IsPlaceAmong (wanted_for new spot) (length x) (runs x) o) there.found (first_place-right (wanted_for new spot) (length x) (runs x) fine.spot_good)

  is_run : Contains (runs x) place.run
  is_run = subst (λ (l : List CellRange). Contains l place.run) (sym first.whole) (Contains-append_right first.before (place.run ∷ first.later) place.run (0, omega arith, refl))

  pub the_run : IsRun x place.run
  the_run = run_of x place.run there.sound.whole is_run

  range : IsCellRange place.run (length x)
  range = the_run.range

  fits : LiesInItsRun (wanted_for new spot) (length x) place
  fits = fits_there (wanted_for new spot) (length x) place range first.allowed.after_header first.allowed.ends first.header

  some : 4 ≤ length x
  some = omega (arith, range.some, range.inside)

  cell_long : length (made_at x new place) ≡ end - place.header
  cell_long = made_as_long new.name new.kind new.digest (place.content - place.header - metadata_len_of new) new.content (kept_at x end) is.digest (keeps x end some) ∙ omega (arith, fits.header.aligned, fits.header.room)

  abbrev metadata : List ℕ
  metadata = made_metadata new.name new.kind new.digest (place.content - place.header - metadata_len_of new) (length new.content)

  metadata_long : length metadata ≡ place.content - place.header
  metadata_long = written_long x new (wanted_for new spot) place (length x) refl fits refl refl fine.name_short is.digest

  abbrev before : List ℕ
  before = empty_between x place.run.start place.header

  abbrev after : List ℕ
  after = empty_between x end place.run.end

  end_below : end ≤ place.run.end
  end_below = omega (arith, fits.inside, range.end_aligned)

  placing : IsPlacing place.run.start place.run.end place.header before (made_at x new place) after
  placing =
      let to_end : place.header + length (made_at x new place) ≡ end = omega (arith, cell_long, fits.header.room) in
      record {
        aligned = fits.header.aligned;
        from_start = fits.start_below;
        to_end = omega (arith, to_end, end_below);
        small = omega (arith, range.inside, is.region);
        space_before = space x place.run.start place.header fits.start_below range.start_aligned fits.header.aligned some;
        space_after = subst (λ n. IsFreeSpace (place.run.end - n) after) (sym to_end) (space x end place.run.end end_below (omega arith) range.end_aligned some);
      }

  whole_long : length (before ++ (made_at x new place ++ after)) ≡ place.run.end - place.run.start
  whole_long =
      let long = length-append before (made_at x new place ++ after) ∙ ap (λ n. length before + n) (length-append (made_at x new place) after) in
      omega (arith, long, placing.space_before.long, placing.space_after.long, cell_long, end_below, fits.start_below, fits.header.room)

  pub added_length : length (added x new place) ≡ length x
  added_length = length-overwritten x place.run.start (before ++ (made_at x new place ++ after)) (omega (arith, whole_long, range.some, range.inside))

  pub region_some : 64 ≤ length x
  region_some = omega (arith, range.some, range.inside)

  -- one more component
  pub more : HasOneMoreComponent x place.run.start place.run.end the_run.cells (space_cells before ++ (made_at x new place ∷ []) ++ space_cells after) (added_component x new place) (added x new place)
  more =
      let is_made : IsMade new.name new.kind new.digest (place.content - place.header - metadata_len_of new) new.content =
      record { name_short = fine.name_short; name_plain = fine.name_plain; kind_small = is.kind; kind_used = fine.kind_good; digest_long = is.digest; small = omega (arith, metadata_long, fits.inside, range.inside, is.region, fits.header.room) } in
      subst (λ (l : List ℕ). HasOneMoreComponent x place.run.start place.run.end the_run.cells (space_cells before ++ (made_at x new place ∷ []) ++ space_cells after) (added_component x new place) l)
      (sym (as_splice x place.run.start place.run.end (before ++ (made_at x new place ++ after)) (omega (arith, whole_long, range.some))))
      (components_placed x place.run.start place.run.end the_run.cells place.header before (made_at x new place) after new.name new.kind new.digest new.content the_run.free placing
      (made_alone new.name new.kind new.digest (place.content - place.header - metadata_len_of new) new.content (kept_at x end) is_made (keeps x end some)))

  pub content : slice_range (added x new place) place.content (place.content + length new.content) ≡ new.content
  content = content_at x before metadata new.content _ after place.run.start place.content (omega (arith, range.some, range.inside)) (omega (arith, placing.space_before.long, metadata_long, fits.start_below, fits.header.room))

  -- the end of the writes
  abbrev pub to : ℕ
  to = max (place.content + length new.content) (space_end (length x) place.run.end)

  near : (space_end (length x) place.run.end ≤ place.run.end) × (place.run.end ≤ space_end (length x) place.run.end + 4)
  near = space_end-near (length x) place.run.end

  below : space_end (length x) place.run.end ≤ length x - 4
  below = space_end-below (length x) place.run.end range.inside range.end_aligned there.sound.whole

  -- a stop before the last commit
  pub add_leaves_before : (y : List ℕ) → IsOldOrEmptied place.run to x y → AddLeavesBefore x new spot y
  add_leaves_before y (inl same) = (inl same, ap (λ (l : List ℕ). components l) same)
  add_leaves_before y (inr emptied) =
      let within : to ≤ place.run.end = omega (arith, near, fits.inside) in
      let whole = emptied-wider x place.run range to y emptied place.run.end within in
      let kept = emptied_runs x place.run y there.sound.whole is.region is_run whole in
      (inr (place, is.placed, emptied-stopped x place.run range to y emptied (added x new place) (max (place.content + length new.content) (length x - 4)) (omega (arith, near, range.some)) within (omega (arith, below)) (inl kept.components) kept.end), kept.components)

  -- a stop after the last commit
  pub add_leaves_done : (y : List ℕ) → y ≡ added x new place → drop to y ≡ drop to x → AddLeavesWhole x new spot y
  add_leaves_done y done last =
      inr (
        place,
        is.placed,
        record {
          components = inr (ap (λ (l : List ℕ). components l) done);
          end = ap (λ (l : List ℕ). (cut l).end) done ∙ one_more-end _ _ _ _ _ _ _ more;
          outside = record {
            before = (subst (λ (l : List ℕ). SameOutside place.run.start (place.run.end - place.run.start) x l) (sym done)
                (SameOutside-overwritten x place.run.start (place.run.end - place.run.start) (before ++ (made_at x new place ++ after)) (omega (arith, whole_long)) (omega (arith, range.some, range.inside)))).before;
            after = further x y to (place.run.start + (min place.run.end (max (place.content + length new.content) (length x - 4)) - place.run.start)) (omega (arith, below, near.0, fits.inside)) last;
          };
        },
      )

  -- a stop of the empty entry
  pub empty_before : (y : List ℕ) → IsOldOrEmptied place.run (space_end (length x) place.run.end) x y → AddLeavesBefore x new spot y
  empty_before y stop = add_leaves_before y (old_or-wider x place.run range (space_end (length x) place.run.end) to y (omega arith) stop)

  -- the content after the empty entry
  pub copied_before : (y z : List ℕ) → length z ≡ length y → y ≡ removed x place.run → SameOutside place.content (length new.content) y z → AddLeavesBefore x new spot z
  copied_before y z long emptied torn = add_leaves_before z (inr (with_content x new (wanted_for new spot) place (length x) refl fits refl refl fine.name_short is.digest y z long emptied torn))

  -- a stop at the last writes
  pub shown_whole : (z : List ℕ) → (z ≡ added x new place) ⊎ IsEmptied place.run to x z → AddLeavesWhole x new spot z
  shown_whole z (inl done) = add_leaves_done z done (ap (λ (l : List ℕ). drop to l) done ∙ added-last x new (wanted_for new spot) place (length x) refl fits refl refl fine.name_short is.digest)
  shown_whole z (inr emptied) = (add_leaves_before z (inr emptied)).0

-- ---- the steps: own checks, search, writes

pub digest-sized : (hash : HashChoice) (content : List ℕ) → IsDigest (digest_of hash content)
digest-sized hash content = sized (algorithm_of hash)
  where
    sized : (found : Option Algorithm) → IsDigest (option_map (λ algorithm. hashed_by algorithm content) found)
    sized None = tt
    sized (Some a) = length-hashed a content

-- no error of the caller's own checks
pub no_fault : (o : Option EditFault) → ((fault : EditFault) → o ≡ Some fault → ⊥) → None ≡ o
no_fault None none = refl
no_fault (Some fault) none = absurd (none fault refl)

-- the search's result is the addition's
pub searched : (x : List ℕ) (new : NewComponent) (spot : Spot) (wanted : Wanted) → None ≡ argument_fault new.name new.kind spot → wanted ≡ wanted_for new spot → (found : Result Place EditFault) → IsErrOf found faults.Device ⊎ (found ≡ placing_in x new.name wanted) → IsErrOf found faults.Device ⊎ (found ≡ addition_in x new spot)
searched x new spot wanted own is found answer = ⊎_elim inl (λ e. inr (e ∙ ap (λ (w : Wanted). placing_in x new.name w) is ∙ own-is x new spot None own)) answer

-- an unchanged image
pub addition_refused : (r : Range) (with_content : List ℕ → NewComponent) (spot : Spot) (source : Device) (fault : EditFault) (old now : List ℕ)
    → (let a : Result Place EditFault = Err fault in IsErrOf a faults.Device ⊎ (a ≡ addition_in (bytes_in r old) (with_content source.content) spot)) → now ≡ old → IsAddition r with_content spot source (Err fault) old now
addition_refused r with_content spot source faults.Device old now answer same = λ honest. inl (ap (λ (l : List ℕ). bytes_in r l) same)
addition_refused r with_content spot source faults.Source old now answer same = (inl (ap (λ (l : List ℕ). bytes_in r l) same), ap (λ (l : List ℕ). components (bytes_in r l)) same)
addition_refused r with_content spot source fault old now (inl failed) same = absurd cc
addition_refused r with_content spot source fault old now (inr is) same = (sym is, same)

-- The writes after a search, on an honest device. A lemma has the parameters of all modules around
-- it, from the first module on, and then its own. They follow the calls in `add`. First, at the
-- call: the region, the device, the function from a content to the component, the spot and the
-- source. Then the request of the search, and the found place. Facts: the `requires` of `add`, the
-- request is that of the component, the type and the digest fit, the result of the search.
module _ (r : Range) (device : Device) (with_content : List ℕ → NewComponent) (spot : Spot) (source : Device) (wanted : Wanted) (place : Place) (lies : LiesOn r device) (wanted_is : wanted ≡ wanted_for (with_content source.content) spot) (kind : (with_content source.content).kind < 2 ^ 32)
    (digest : IsDigest (with_content source.content).digest) (found : (let a : Result Place EditFault = Ok place in IsErrOf a faults.Device ⊎ (a ≡ addition_in (bytes_in r device.content) (with_content source.content) spot))) where
  abbrev old : List ℕ
  old = bytes_in r device.content

  abbrev new : NewComponent
  new = with_content source.content

  placed : addition_in old new spot ≡ Ok place
  placed = ⊎_elim (λ failed. absurd cc) (λ e. sym e) found

  added_there : IsAdded old new spot place
  added_there = record { region = omega (arith, length-bytes_in r device.content lies.inside, lies.inside, lies.below); kind = kind; digest = digest; placed = placed }

  -- The content after the search, and after `write_empty_entry`. Facts: the search changed no byte,
  -- the write kept the length.
  module _ (mid empty : List ℕ) (same : mid ≡ device.content) (empty_long : length empty ≡ length mid) where
    pub empty_left : IsOldOrEmptied place.run (space_end r.size place.run.end) (bytes_in r mid) (bytes_in r empty) → IsAddition r with_content spot source (Err faults.Device) device.content empty
    empty_left stop = λ honest. (empty_before old new spot place added_there (bytes_in r empty) (subst (λ n. IsOldOrEmptied place.run (space_end n place.run.end) old (bytes_in r empty)) (sym (length-bytes_in r device.content lies.inside)) (rw same at stop))).0

    -- The content after `copy_content`. Facts: it kept the length, the run was emptied before it,
    -- and it changed only the range of the new content.
    module _ (copied : List ℕ) (copied_long : length copied ≡ length empty) (emptied : bytes_in r empty ≡ removed (bytes_in r mid) place.run) (torn : SameOutside place.content (length new.content) (bytes_in r empty) (bytes_in r copied)) where
      emptied_old : bytes_in r empty ≡ removed old place.run
      emptied_old = emptied ∙ ap (λ (l : List ℕ). removed (bytes_in r l) place.run) same

      as_long : length (bytes_in r copied) ≡ length (bytes_in r empty)
      as_long = same_region_length r device.content empty copied lies.inside (empty_long ∙ ap length same) copied_long

      pub copied_left : (fault : CopyInFault) → IsAddition r with_content spot source (Err (copy_edit_fault fault)) device.content copied
      copied_left copies.Device = λ honest. (copied_before old new spot place added_there (bytes_in r empty) (bytes_in r copied) as_long emptied_old torn).0
      copied_left copies.Source = copied_before old new spot place added_there (bytes_in r empty) (bytes_in r copied) as_long emptied_old torn

      -- The result of `describe`, the stored digest, and the content after `describe`. Facts: it
      -- kept the length, the digest is that of the component, the content is copied completely, and
      -- the region is as `Shows` states.
      module _ {T E : Type 0} (result : Result T E) (stored : Option Digest) (shown : List ℕ) (shown_long : length shown ≡ length copied) (stored_is : IsTrue source.honest → stored ≡ new.digest)
          (copied_is : IsTrue source.honest → bytes_in r copied ≡ overwritten (bytes_in r empty) place.content new.content)
          (shown_is : (x content : List ℕ) → length x ≡ r.size → length content ≡ wanted.len → bytes_in r copied ≡ overwritten (removed x place.run) place.content content → (let z = bytes_in r shown in let one : NewComponent = record { name = new.name; kind = new.kind; digest = stored; content = content } in OnOk result (z ≡ added x one place) × ((z ≡ added x one place) ⊎ IsEmptied place.run (max (place.content + wanted.len) (space_end r.size place.run.end)) x z))) where
        is_shown : IsTrue source.honest → OnOk result (bytes_in r shown ≡ added old new place) × ((bytes_in r shown ≡ added old new place) ⊎ IsEmptied place.run (to old new spot place added_there) old (bytes_in r shown))
        is_shown honest =
            let size = length-bytes_in r device.content lies.inside in
            let len : wanted.len ≡ length new.content = ap (λ (w : Wanted). w.len) wanted_is in
            let is = rw (stored_is honest, len) at (shown_is old new.content size (sym len) (copied_is honest ∙ ap (λ (l : List ℕ). overwritten l place.content new.content) emptied_old)) in
            subst (λ n. OnOk result (bytes_in r shown ≡ added old new place) × ((bytes_in r shown ≡ added old new place) ⊎ IsEmptied place.run (max (place.content + length new.content) (space_end n place.run.end)) old (bytes_in r shown))) (sym size) is

        pub shown_left : IsAddition r with_content spot source (Err faults.Device) device.content shown
        shown_left = λ honest. shown_whole old new spot place added_there (bytes_in r shown) (is_shown honest).1

        pub shown_done : (let P : Type 0 = bytes_in r shown ≡ added old new place in OnOk result P → P) → SameOutside r.start r.size device.content shown → IsAddition r with_content spot source (Ok (record { header = place.header; content = place.content })) device.content shown
        shown_done ok outside = (
          place,
          placed,
          refl,
          λ honest. image_of r (added old new place) device.content device.content shown lies.inside refl (shown_long ∙ copied_long ∙ empty_long ∙ ap length same) outside (ok (is_shown honest).0),
        )
