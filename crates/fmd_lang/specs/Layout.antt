-- The places of sections. Relative offsets and omitted sizes are coreboot's rules
-- (Documentation/lib/flashmap.md); conditions and results of omitted sizes are this project's own.
use Rattle.std.specs.Prelude.{◌≡◌, ℕ, ◌+◌, ◌-◌, ◌<◌, ◌≤◌, nat_eq, nat_lt, Bool, false, ◌&&◌, ◌||◌}
use Rattle.std.specs.Prelude.{if◌then◌else◌, List, [], ◌∷◌, ◌++◌, Option, Some, None, Result}
use Rattle.std.specs.Prelude.{length, Ok, Err, unwrap_or, MatchOption}
use Rattle.std.specs.Option.{is_none, option_map_or}
use Rattle.fmd_lang.specs.Grammar.{Tree, section, Forest, none, some, names}
use Rattle.fmd_lang.specs.declared.row.Sibling.{Sibling}
use Rattle.fmd_lang.specs.declared.row.Place.{Place}
use Rattle.fmd_lang.specs.declared.fault.FmdFault.{FmdFault}
use Rattle.fmd_lang.specs.declared.fault.FmdFault.TheVariants as faults

-- The end of a sibling with an omitted size, by the siblings after it and the parent's size: the
-- next explicit offset, or the parent's size, minus the explicit sizes up to there.
abbrev pub omitted_end : ℕ → List Sibling → ℕ
omitted_end parent [] = parent
omitted_end parent (next ∷ later) =
    unwrap_or next.offset (omitted_end parent later - unwrap_or next.size 0)

-- the place of a sibling, in a parent of this size, if the sibling before it ends at `from`
pub record IsPlaced (parent from : ℕ) (next : Sibling) (later : List Sibling) (place : Place)
    : Type 0 where
  pub offset : place.start ≡ unwrap_or next.offset from
  pub size : MatchOption next.size (place.start + place.size ≡ omitted_end parent later)
      (λ given. place.size ≡ given)
  pub not_empty : 0 < place.size
  pub after : from ≤ place.start
  pub inside : place.start + place.size ≤ parent

-- the places of a row, if the previous sibling ends at `from`
abbrev pub ArePlaced : ℕ → ℕ → List Sibling → List Place → Type 0
ArePlaced parent from [] places = places ≡ []
ArePlaced parent from (next ∷ later) [] = ⊥
ArePlaced parent from (next ∷ later) (place ∷ places) = IsPlaced parent from next later place
    × ArePlaced parent (place.start + place.size) later places

-- The first sibling whose omitted size can't be told from an earlier one: no sibling between the
-- two has an offset. The flag tells whether there is such an earlier one.
abbrev pub ambiguous_sibling : Bool → List Sibling → Option ℕ
ambiguous_sibling omitted [] = None
ambiguous_sibling omitted (next ∷ later) = let run = omitted && is_none next.offset in
    if run && is_none next.size then Some next.number
    else ambiguous_sibling (run || is_none next.size) later

-- ---- the computed places

-- the result of two steps
abbrev pub and_then : {X Y E : Type 0} → Result X E → (X → Result Y E) → Result Y E
and_then (Ok value) step = step value
and_then (Err fault) step = Err fault

-- the place of a sibling, or its first fault
abbrev pub place_of : ℕ → ℕ → Sibling → List Sibling → Result Place FmdFault
place_of parent from next later = let start = unwrap_or next.offset from in
    let size = unwrap_or next.size (omitted_end parent later - start) in
    if nat_eq size 0 then Err (faults.EmptySection next.number)
    else (if nat_lt start from then Err (faults.Overlap next.number)
    else (if nat_lt parent (start + size) then Err (faults.Outside next.number)
    else Ok (record { start = start; size = size })))

-- the places before, then those of the siblings from `from` on, or the first fault
abbrev pub places_from : ℕ → ℕ → List Sibling → List Place → Result (List Place) FmdFault
places_from parent from [] before = Ok before
places_from parent from (next ∷ later) before = and_then (place_of parent from next later)
    (λ place. places_from parent (place.start + place.size) later (before ++ place ∷ []))

-- the places of a row, or the first fault: omitted sizes precede places
abbrev pub places_of : ℕ → List Sibling → Result (List Place) FmdFault
places_of parent row =
    option_map_or (λ number. Err (faults.Ambiguous number)) (ambiguous_sibling false row)
    (places_from parent 0 row [])

-- a section as a sibling; the number is that in preorder
abbrev pub sibling : ℕ → Tree → Sibling
sibling number (section name flags offset size parts) =
    record { number = number; offset = offset; size = size }

abbrev pub siblings : ℕ → Forest → List Sibling
siblings number none = []
siblings number (some part parts) =
    sibling number part ∷ siblings (number + length (names part)) parts
