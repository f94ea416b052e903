-- The place of a new component is the least allowed place in the first run with one.
use Rattle.std.proofs.Common.{◌≡◌, ℕ, ◌+◌, ◌-◌, ◌*◌, ◌/◌, ◌%◌, ◌<◌, ◌≤◌, Bool, true, false, cond, List, [], ◌∷◌, length, All, Contains, ap, subst, sym, ◌∙◌, refl, arith, rules, Option, Some, None, Ok, Err}
use Rattle.std.specs.Prelude.{◌↔◌, ◌&&◌, nat_le, MatchOption, is_some, ok_or}
use Rattle.std.specs.List.{cons_option, filter_map, slice_get}
use Rattle.std.specs.Int.{next_multiple_of}
use Rattle.std.proofs.lemmas.Bool.{eqb-false, leb-false, leb-true}
use Rattle.std.proofs.lemmas.List.Elements.{All-nil, All-cons, All-weaker, All-contains, Contains-append_right}
use Rattle.std.proofs.Math.Nat.{add-mod-mod, mul-mod_left, mod-lt, div-add-mod, lt_of_mul-lt-mul_right, mul-le-mul_right}
use Rattle.cbfs_edit.specs.Places.{is_bad_align, Allows, HasNoRoom, IsAllowed, IsHeaderOf, IsFirstPlace, content_limit, least_allowed_from, place_at, place_in, first_place, placing_in}
use Rattle.cbfs_edit.specs.Removals.{IsCellRange}
use Rattle.cbfs_edit.specs.Places.{LiesInItsRun}
use Rattle.cbfs_edit.specs.Places.{runs}
use Rattle.cbfs_edit.specs.declared.group.CellRange.{CellRange}
use Rattle.cbfs_edit.specs.declared.place.Spot.{Spot}
use Rattle.cbfs_edit.specs.declared.place.Spot.TheVariants.{First, Aligned, Fixed}
use Rattle.cbfs_edit.specs.declared.place.Wanted.{Wanted}
use Rattle.cbfs_edit.specs.declared.place.Place.{Place}
use Rattle.cbfs_edit.proofs.EmptyEntries.{space_end-near}
use Rattle.cbfs_edit.proofs.Lists.{one_split}
use Rattle.flash_format.specs.Components.{Component, components}
use Rattle.cbfs_walk.specs.Search.{first_named}
use Rattle.cbfs_edit.proofs.Sound.{IsAccepted, IsSound, accepted_by, found-some}
use Rattle.cbfs_edit.specs.declared.fault.EditFault.TheVariants as faults

some_unit : (unit : ℕ) → is_bad_align (Aligned unit) ≡ false → 0 < unit
some_unit unit good = omega (arith, eqb-false unit 0 good)

next-whole : (from unit : ℕ) → 0 < unit → next_multiple_of from unit % unit ≡ 0
next-whole from unit some =
    let same : from + (unit - from % unit) ≡ (from / unit + 1) * unit = omega (arith, mod-lt from some, div-add-mod from unit) in
    add-mod-mod from (unit - from % unit) unit ∙ ap (λ n. n % unit) same ∙ mul-mod_left (from / unit + 1) unit

-- the least multiple from a number on
multiple_least : (unit from d : ℕ) → 0 < unit → from ≤ d → d % unit ≡ 0 → next_multiple_of from unit ≤ d
multiple_least unit from d some below whole =
    let next = next_multiple_of from unit in
    let here : unit * (next / unit) + next % unit ≡ next = div-add-mod next unit in
    let there : unit * (d / unit) + d % unit ≡ d = div-add-mod d unit in
    let near : next < from + unit = omega arith in
    let whole_next = next-whole from unit some in
    let fewer : next / unit < d / unit + 1 = lt_of_mul-lt-mul_right unit (omega (arith, here, there, whole_next)) in
    let enough : next / unit * unit ≤ d / unit * unit = mul-le-mul_right unit (omega (arith, fewer)) in
    omega (arith, enough, here, there, whole_next)

-- the least allowed place from a place on
pub least_allowed_from-least : (spot : Spot) (from d : ℕ) → is_bad_align spot ≡ false → from ≤ d → Allows spot d → least_allowed_from spot from ≤ d
least_allowed_from-least First from d some below meets = below
least_allowed_from-least (Aligned unit) from d some below meets = multiple_least unit from d (some_unit unit some) below meets
least_allowed_from-least (Fixed place) from d some below meets = omega arith

pub least_allowed_from-meets : (spot : Spot) (from : ℕ) → is_bad_align spot ≡ false → Allows spot (least_allowed_from spot from)
least_allowed_from-meets First from some = tt
least_allowed_from-meets (Aligned unit) from some = next-whole from unit (some_unit unit some)
least_allowed_from-meets (Fixed place) from some = refl

-- the spot allows no later place
least_allowed_from-none : (spot : Spot) (from d : ℕ) → is_bad_align spot ≡ false → least_allowed_from spot from < from → from ≤ d → Allows spot d → ⊥
least_allowed_from-none First from d some less below meets = omega arith
least_allowed_from-none other from d some less below meets = omega arith

header_lemma : (wanted : Wanted) (run : CellRange) (c : ℕ) → wanted.metadata_len ≤ c → IsHeaderOf wanted (place_at wanted run c)
header_lemma wanted run c above = record { aligned = omega arith; room = omega arith; largest = omega arith }

pub place_in-right : (wanted : Wanted) (size : ℕ) (run : CellRange) (later : List CellRange) → is_bad_align wanted.spot ≡ false → MatchOption (place_in wanted size run) (HasNoRoom wanted size run) (IsFirstPlace wanted size (run ∷ later))
place_in-right wanted size run later is = go (nat_le from c) (nat_le (c + wanted.len) limit) refl refl
  where
    from : ℕ
    from = run.start + wanted.metadata_len

    c : ℕ
    c = least_allowed_from wanted.spot from

    limit : ℕ
    limit = content_limit wanted.spot size run.end

    go : (a b : Bool) → nat_le from c ≡ a → nat_le (c + wanted.len) limit ≡ b
        → MatchOption (cond (a && b) (Some (place_at wanted run c)) None) (HasNoRoom wanted size run) (IsFirstPlace wanted size (run ∷ later))
    go false b ta tb = λ d allowed. least_allowed_from-none wanted.spot from d is (leb-false from c ta) allowed.after_header allowed.meets
    go true false ta tb = λ d allowed. omega (arith, least_allowed_from-least wanted.spot from d is allowed.after_header allowed.meets, allowed.ends, leb-false (c + wanted.len) limit tb)
    go true true ta tb = record {
      before = [];
      later = later;
      whole = refl;
      none_before = All-nil (HasNoRoom wanted size);
      allowed = record { after_header = leb-true from c ta; meets = least_allowed_from-meets wanted.spot from is; ends = leb-true (c + wanted.len) limit tb };
      least = λ d allowed. least_allowed_from-least wanted.spot from d is allowed.after_header allowed.meets;
      header = header_lemma wanted run c (omega (arith, leb-true from c ta));
    }

limit_below : (spot : Spot) (size end : ℕ) → content_limit spot size end ≤ end
limit_below (Fixed place) size end = omega arith
limit_below other size end = (space_end-near size end).0

pub fits_there : (wanted : Wanted) (size : ℕ) (place : Place) → IsCellRange place.run size → place.run.start + wanted.metadata_len ≤ place.content → place.content + wanted.len ≤ content_limit wanted.spot size place.run.end → IsHeaderOf wanted place → LiesInItsRun wanted size place
fits_there wanted size place range after ends header = let below = limit_below wanted.spot size place.run.end in search rules

-- the header at the last multiple of 64 with room for the metadata
pub fits_at : (wanted : Wanted) (size : ℕ) (run : CellRange) (c : ℕ) → IsCellRange run size → run.start + wanted.metadata_len ≤ c → c + wanted.len ≤ content_limit wanted.spot size run.end → LiesInItsRun wanted size (place_at wanted run c)
fits_at wanted size run c range after ends = fits_there wanted size (place_at wanted run c) range after ends (header_lemma wanted run c (omega arith))

abbrev pub IsPlaceAmong : Wanted → ℕ → List CellRange → Option Place → Type 0
IsPlaceAmong wanted size runs found = MatchOption found (All (HasNoRoom wanted size) runs) (IsFirstPlace wanted size runs)

pub first_place-right : (wanted : Wanted) (size : ℕ) (runs : List CellRange) → is_bad_align wanted.spot ≡ false → IsPlaceAmong wanted size runs (first_place wanted size runs)
first_place-right wanted size [] is = All-nil (HasNoRoom wanted size)
first_place-right wanted size (run ∷ later) is = go (place_in wanted size run) (place_in-right wanted size run later is) (filter_map (place_in wanted size) later) (first_place-right wanted size later is)
  where
    after : (q : Option Place) → HasNoRoom wanted size run → IsPlaceAmong wanted size later q → IsPlaceAmong wanted size (run ∷ later) q
    after None none rest = All-cons (HasNoRoom wanted size) run later none rest
    after (Some place) none rest = record {
      before = run ∷ rest.before;
      later = rest.later;
      whole = ap (λ (l : List CellRange). run ∷ l) rest.whole;
      none_before = All-cons (HasNoRoom wanted size) run rest.before none rest.none_before;
      allowed = rest.allowed;
      least = rest.least;
      header = rest.header;
    }

    go : (o : Option Place) → MatchOption o (HasNoRoom wanted size run) (IsFirstPlace wanted size (run ∷ later)) → (places : List Place) → IsPlaceAmong wanted size later (slice_get places 0) → IsPlaceAmong wanted size (run ∷ later) (slice_get (cons_option o places) 0)
    go None none places rest = after (slice_get places 0) none rest
    go (Some place) here places rest = here

-- ---- no other place

module _ (wanted : Wanted) (size : ℕ) where
  no_room : (runs : List CellRange) (p : Place) → All (HasNoRoom wanted size) runs → IsFirstPlace wanted size runs p → ⊥
  no_room runs p none is = All-contains (HasNoRoom wanted size) runs p.run none (subst (λ (l : List CellRange). Contains l p.run) (sym is.whole) (Contains-append_right is.before (p.run ∷ is.later) p.run (0, omega arith, refl))) p.content is.allowed

  -- a start of content in the run is allowed
  abbrev HasRoom : CellRange → Type 0
  HasRoom run = (c : ℕ) × IsAllowed wanted size run c

  without_room : (runs : List CellRange) → All (HasNoRoom wanted size) runs → All (λ run. HasRoom run → ⊥) runs
  without_room runs none = All-weaker (HasNoRoom wanted size) (λ run. HasRoom run → ⊥) (λ run no room. no room.0 room.1) runs none

  same_place : (p q : Place) → p.run ≡ q.run → p.header ≡ q.header → p.content ≡ q.content → p ≡ q
  same_place p q run header content = let same : (let k : Place = record { run = p.run; header = p.header; content = p.content } in k) ≡ q = rw (run, header, content) refl in same

  pub one_place : (runs : List CellRange) (p q : Option Place) → IsPlaceAmong wanted size runs p → IsPlaceAmong wanted size runs q → p ≡ q
  one_place runs None None is other = refl
  one_place runs None (Some q) is other = absurd (no_room runs q is other)
  one_place runs (Some p) None is other = absurd (no_room runs p other is)
  one_place runs (Some p) (Some q) is other =
      let run : p.run ≡ q.run =
      (one_split HasRoom is.before is.later other.before other.later p.run q.run (p.content, is.allowed) (q.content, other.allowed) (without_room is.before is.none_before) (without_room other.before other.none_before)
      (sym is.whole ∙ other.whole)).same in
      let no_more : p.content ≤ q.content = is.least q.content (subst (λ (r : CellRange). IsAllowed wanted size r q.content) (sym run) other.allowed) in
      let no_less : q.content ≤ p.content = other.least p.content (subst (λ (r : CellRange). IsAllowed wanted size r p.content) run is.allowed) in
      let content : p.content ≡ q.content = omega arith in
      ap (λ (k : Place). Some k) (same_place p q run (omega (arith, is.header, other.header, content)) content)

pub places_exact : (x : List ℕ) (wanted : Wanted) (found : Option Place) → is_bad_align wanted.spot ≡ false → IsPlaceAmong wanted (length x) (runs x) found ↔ (found ≡ first_place wanted (length x) (runs x))
places_exact x wanted found is =
    let here = first_place-right wanted (length x) (runs x) is in
    (λ place. one_place wanted (length x) (runs x) found (first_place wanted (length x) (runs x)) place here, λ same. subst (λ (o : Option Place). IsPlaceAmong wanted (length x) (runs x) o) (sym same) here)

-- ---- a place requires a new name

-- no component has the name, and the place is the region's
pub record IsAnsweredPlace (x name : List ℕ) (wanted : Wanted) (place : Place) : Type 0 where
  pub sound : IsSound x
  pub no_other : first_named name (components x) ≡ None
  pub found : first_place wanted (length x) (runs x) ≡ Some place

pub answered_place : (x name : List ℕ) (wanted : Wanted) (place : Place) → placing_in x name wanted ≡ Ok place → IsAnsweredPlace x name wanted place
unfolding placing_in
answered_place x name wanted place is = by_name (first_named name (components x)) refl a.is
  where
    a : IsAccepted x (cond (is_some (first_named name (components x))) (Err faults.Exists) (ok_or (first_place wanted (length x) (runs x)) faults.NoSpace)) place
    a = accepted_by x _ place is

    by_name : (o : Option Component) → first_named name (components x) ≡ o → cond (is_some o) (Err faults.Exists) (ok_or (first_place wanted (length x) (runs x)) faults.NoSpace) ≡ Ok place → IsAnsweredPlace x name wanted place
    by_name (Some c) e p = absurd cc
    by_name None e p =
        record { sound = a.sound; no_other = e; found = found-some (first_place wanted (length x) (runs x)) faults.NoSpace place p }
