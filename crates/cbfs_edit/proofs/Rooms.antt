-- The largest content with a place.
use Rattle.std.proofs.Common.{◌≡◌, ℕ, ◌+◌, ◌⊎◌, ⊎_elim, inl, inr, Bool, true, false, cond, List, [], ◌∷◌, length, Option, Some, None, Ok, Err, Result, refl, sym, ap, ◌∙◌, arith}
use Rattle.std.specs.Prelude.{◌||◌, is_some, max, nat_lt, IfOk, IsErrOf}
use Rattle.std.specs.List.{cons_option, filter_map, slice_get}
use Rattle.std.specs.Option.{option_map_or}
use Rattle.std.proofs.lemmas.Bool.Decides.{nat_tests}
use Rattle.flash_format.specs.Cut.{End, cut, damage}
use Rattle.flash_format.specs.Head.{head_of, is_free}
use Rattle.flash_format.specs.Made.{hash_len}
use Rattle.cbfs_walk.specs.Shapes.{shape_fault}
use Rattle.cbfs_walk.specs.CellReadings.{place_after}
use Rattle.cbfs_walk.specs.declared.walk.WalkFault.{WalkFault}
use Rattle.cbfs_walk.proofs.Digests.{algorithm-hashed}
use Rattle.flash_format.specs.Made.{algorithm_row, meta_length}
use Rattle.flash_format.specs.declared.digest.Algorithm.{Algorithm}
use Rattle.flash_format.specs.declared.digest.Algorithm.TheVariants as algorithms
use Rattle.cbfs_edit.specs.Additions.{argument_fault, digest_of, new_component, wanted_for}
use Rattle.cbfs_edit.specs.Places.{content_limit, first_place, least_allowed_from, place_in, runs, runs_from}
use Rattle.cbfs_edit.specs.Removals.{edit_fault_of, unless_damaged, unless_unsound}
use Rattle.cbfs_edit.specs.Rooms.{is_within, larger_of, largest_content_in, largest_room, room_in, room_of}
use Rattle.cbfs_edit.specs.Searches.{room_by}
use Rattle.cbfs_edit.specs.declared.addition.HashChoice.{HashChoice}
use Rattle.cbfs_edit.specs.declared.addition.HashChoice.TheVariants.{Plain, Sha256, Sha512}
use Rattle.cbfs_edit.specs.declared.fault.EditFault.{EditFault}
use Rattle.cbfs_edit.specs.declared.fault.EditFault.TheVariants.{Device}
use Rattle.cbfs_edit.specs.declared.group.CellRange.{CellRange}
use Rattle.cbfs_edit.specs.declared.place.Place.{Place}
use Rattle.cbfs_edit.specs.declared.place.Spot.{Spot}
use Rattle.cbfs_edit.specs.declared.place.Wanted.{Wanted}
use Rattle.cbfs_edit.specs.declared.room.RoomSurvey.{RoomSurvey}

-- ---- the larger one

larger_none : (a : Option ℕ) → larger_of a None ≡ a
larger_none None = refl
larger_none (Some n) = refl

larger_assoc : (a b c : Option ℕ) → larger_of a (larger_of b c) ≡ larger_of (larger_of a b) c
larger_assoc None b c = refl
larger_assoc (Some n) None c = refl
larger_assoc (Some n) (Some m) None = refl
larger_assoc (Some n) (Some m) (Some k) = let most : max n (max m k) ≡ max (max n m) k = omega arith in ap (λ (l : ℕ). Some l) most

-- ---- the search

module _ (empty : Wanted) (size : ℕ) where
  -- the room of the row, if it is not empty
  abbrev pub row_room : RoomSurvey → Option ℕ
  row_room s = cond (nat_lt s.row.start s.row.end) (room_in empty size s.row) None

  or_run : (a : Option ℕ) (b : Bool) (run : CellRange) (later : List CellRange)
      → larger_of a (largest_room empty size (cond b (run ∷ later) later))
      ≡ larger_of (larger_of a (cond b (room_in empty size run) None)) (largest_room empty size later)
  unfolding largest_room
  or_run a true run later = larger_assoc a (room_in empty size run) (largest_room empty size later)
  or_run a false run later = ap (λ b. larger_of b (largest_room empty size later)) (sym (larger_none a))

  -- over a free cell
  pub room_free_step : (s : RoomSurvey) (c : List ℕ) (cells : List (List ℕ)) (span : ℕ) → is_free (head_of c) ≡ true → length c ≡ span
      → room_by empty size s (c ∷ cells) ≡ room_by empty size (record { row = record { start = s.row.start; end = s.row.end + span }; largest = s.largest }) cells
  unfolding runs_from
  room_free_step s c cells span free long = rw (free, long) refl

  -- over a component
  pub room_step : (s : RoomSurvey) (c : List ℕ) (cells : List (List ℕ)) (span : ℕ) (largest : Option ℕ) → is_free (head_of c) ≡ false → length c ≡ span
      → largest ≡ larger_of s.largest (row_room s)
      → room_by empty size s (c ∷ cells) ≡ room_by empty size (record { row = record { start = s.row.end + span; end = s.row.end + span }; largest = largest }) cells
  unfolding runs_from
  room_step s c cells span largest used long is =
      let next = s.row.end + span in
      rw (used, long, is) (or_run s.largest (nat_lt s.row.start s.row.end) s.row (runs_from next next cells))

  -- at the end of the cells
  pub no_room_left : (s : RoomSurvey) (largest : Option ℕ) → largest ≡ larger_of s.largest (row_room s) → largest ≡ room_by empty size s []
  unfolding runs_from largest_room
  no_room_left s largest is =
      is ∙ sym (or_run s.largest (nat_lt s.row.start s.row.end) s.row [] ∙ larger_none (larger_of s.largest (row_room s)))

-- before the first cell
abbrev pub nothing_seen : RoomSurvey
nothing_seen = record { row = record { start = 0; end = 0 }; largest = None }

pub room_searched : (x : List ℕ) (empty : Wanted) (size : ℕ) → length x ≡ size
    → room_of empty x ≡ unless_unsound x (Ok (room_by empty size nothing_seen (cut x).cells))
room_searched x empty size is = ap (λ n. unless_unsound x (Ok (largest_room empty n (runs x)))) is

-- ---- exactly the contents up to the largest have a place

within_larger : (a b : Option ℕ) (n : ℕ) → is_within (larger_of a b) n ≡ (is_within a n || is_within b n)
within_larger None b n = refl
within_larger (Some k) None n = grind (arith, nat_tests)
within_larger (Some k) (Some m) n = grind (arith, nat_tests)

first_or : (o : Option Place) (later : List Place) → is_some (slice_get (cons_option o later) 0) ≡ (is_some o || is_some (slice_get later 0))
first_or None later = refl
first_or (Some place) later = refl

-- the request with a content of n bytes
abbrev pub of_length : Wanted → ℕ → Wanted
of_length empty n = record { metadata_len = empty.metadata_len; len = n; spot = empty.spot }

module _ (empty : Wanted) (size n : ℕ) (none : empty.len ≡ 0) where
  in_run : (run : CellRange) → is_some (place_in (of_length empty n) size run) ≡ is_within (room_in empty size run) n
  in_run run =
      let from = run.start + empty.metadata_len in
      let c = least_allowed_from empty.spot from in
      let limit = content_limit empty.spot size run.end in
      grind (arith, nat_tests, none)

  pub places_are_within : (all : List CellRange) → is_some (first_place (of_length empty n) size all) ≡ is_within (largest_room empty size all) n
  unfolding largest_room
  places_are_within [] = refl
  places_are_within (run ∷ later) =
      first_or (place_in (of_length empty n) size run) (filter_map (place_in (of_length empty n) size) later)
      ∙ ap (λ b. b || is_some (first_place (of_length empty n) size later)) (in_run run)
      ∙ ap (λ b. is_within (room_in empty size run) n || b) (places_are_within later)
      ∙ sym (within_larger (room_in empty size run) (largest_room empty size later) n)

-- ---- the metadata of any content has the same length

same_hash_len : (hash : HashChoice) (content : List ℕ) → hash_len (digest_of hash content) ≡ hash_len (digest_of hash [])
same_hash_len Plain content = refl
same_hash_len Sha256 content =
    ap (λ (a : Algorithm). 12 + (algorithm_row a).len) (algorithm-hashed algorithms.Sha256 content ∙ sym (algorithm-hashed algorithms.Sha256 []))
same_hash_len Sha512 content =
    ap (λ (a : Algorithm). 12 + (algorithm_row a).len) (algorithm-hashed algorithms.Sha512 content ∙ sym (algorithm-hashed algorithms.Sha512 []))

pub wanted_of_length : (name : List ℕ) (kind : ℕ) (hash : HashChoice) (spot : Spot) (content : List ℕ)
    → wanted_for (new_component name kind hash content) spot ≡ of_length (wanted_for (new_component name kind hash []) spot) (length content)
wanted_of_length name kind hash spot content =
    ap (λ k. let w : Wanted = record { metadata_len = meta_length (length name) k; len = length content; spot = spot } in w) (same_hash_len hash content)

-- a success of a sound region
pub unless_unsound_ok : {A : Type 0} (x : List ℕ) (value found : A) → Ok found ≡ unless_unsound x (Ok value) → found ≡ value
unless_unsound_ok {A} x value found is = go (shape_fault x) is
  where
    by_end : (at : ℕ) (end : End) → (let r : Result A EditFault = Ok found in r ≡ unless_damaged at end (Ok value)) → found ≡ value
    by_end at (damage kind) e = absurd cc
    by_end at end e = cc

    go : (o : Option WalkFault) → (let r : Result A EditFault = Ok found in r ≡ option_map_or (λ fault. Err (edit_fault_of fault)) o (unless_damaged (place_after 0 (cut x).cells) (cut x).end (Ok value))) → found ≡ value
    go None e = by_end (place_after 0 (cut x).cells) (cut x).end e
    go (Some fault) e = absurd cc

-- the clause `exact`
pub exactly : (x name : List ℕ) (kind : ℕ) (hash : HashChoice) (spot : Spot) (largest : Option ℕ)
    → Ok largest ≡ room_of (wanted_for (new_component name kind hash []) spot) x
    → (content : List ℕ) → is_some (first_place (wanted_for (new_component name kind hash content) spot) (length x) (runs x)) ≡ is_within largest (length content)
exactly x name kind hash spot largest is content =
    let empty = wanted_for (new_component name kind hash []) spot in
    let found : largest ≡ largest_room empty (length x) (runs x) = unless_unsound_ok x _ largest is in
    ap (λ (w : Wanted). is_some (first_place w (length x) (runs x))) (wanted_of_length name kind hash spot content)
    ∙ places_are_within empty (length x) (length content) refl (runs x)
    ∙ ap (λ (o : Option ℕ). is_within o (length content)) (sym found)

-- ---- the result of the search, for an addition without a fault of its arguments

module _ (x name : List ℕ) (kind : ℕ) (hash : HashChoice) (spot : Spot) (empty : Wanted) (result : Result (Option ℕ) EditFault)
    (is : empty ≡ wanted_for (new_component name kind hash []) spot) (answer : IsErrOf result Device ⊎ (result ≡ room_of empty x)) where
  room_answer : IsErrOf result Device ⊎ (result ≡ room_of (wanted_for (new_component name kind hash []) spot) x)
  room_answer = rw is at answer

  pub answered : None ≡ argument_fault name kind spot → IsErrOf result Device ⊎ (result ≡ largest_content_in x name kind hash spot)
  answered own = ⊎_elim (λ fault. inl fault)
      (λ found. inr (found ∙ ap (λ o. option_map_or (λ fault. Err fault) o (room_of (wanted_for (new_component name kind hash []) spot) x)) own))
      room_answer

pub exact_result : (x name : List ℕ) (kind : ℕ) (hash : HashChoice) (spot : Spot) (empty : Wanted) (result : Result (Option ℕ) EditFault)
    → empty ≡ wanted_for (new_component name kind hash []) spot → IsErrOf result Device ⊎ (result ≡ room_of empty x)
    → IfOk result (λ largest. (content : List ℕ) → is_some (first_place (wanted_for (new_component name kind hash content) spot) (length x) (runs x)) ≡ is_within largest (length content))
exact_result x name kind hash spot empty (Ok largest) is answer =
    ⊎_elim (λ fault. absurd cc) (λ found. exactly x name kind hash spot largest found) (room_answer x name kind hash spot empty (Ok largest) is answer)
exact_result x name kind hash spot empty (Err fault) is answer = tt
