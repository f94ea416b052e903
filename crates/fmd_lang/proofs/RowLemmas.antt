-- The computed places are the only solution of the equations, unless a place is refused.
use Rattle.std.proofs.lemmas.Bool.Decides.{nat_tests}
use Rattle.std.proofs.Common.{◌≡◌, ℕ, suc, ◌+◌, nat_le, true, false, List, [], ◌∷◌, ◌++◌, length, Option, Some, None, Result, Ok, Err, refl, sym, ◌∙◌, ap, arith, append_assoc}
use Rattle.std.specs.List.{list_all}
use Rattle.std.proofs.lemmas.Bool.{le-leb}
use Rattle.std.proofs.lemmas.List.{append-nil}
use Rattle.std.specs.Option.{option_map_or}
use Rattle.fmd_lang.specs.declared.fault.FmdFault.TheVariants as faults
use Rattle.fmd_lang.specs.Layout.{and_then, ambiguous_sibling, place_of, places_from, places_of, ArePlaced, IsPlaced}
use Rattle.fmd_lang.specs.declared.fault.FmdFault.{FmdFault}
use Rattle.fmd_lang.specs.declared.row.Sibling.{Sibling}
use Rattle.fmd_lang.specs.declared.row.Place.{Place}

abbrev pub place_end : Place → ℕ
place_end q = q.start + q.size

pub and_then-ok : {X Y : Type 0} (r : Result X FmdFault) (step : X → Result Y FmdFault) (y : Y) → and_then r step ≡ Ok y →
    (x : X) × (r ≡ Ok x) × (step x ≡ Ok y)
and_then-ok (Ok x) step y h = (x, refl, h)
and_then-ok (Err fault) step y h = cc

abbrev make : ℕ → Option ℕ → Option ℕ → Sibling
make n o z = record { number = n; offset = o; size = z }

placed_one : (parent from n : ℕ) (o z : Option ℕ) (ps : List Sibling) (q : Place) →
    place_of parent from (make n o z) ps ≡ Ok q → IsPlaced parent from (make n o z) ps q
placed_one parent from n o None ps q h = grind (arith, nat_tests)
placed_one parent from n o (Some s) ps q h = grind (arith, nat_tests)

pub placed : (parent from : ℕ) (p : Sibling) (ps : List Sibling) (q : Place) → place_of parent from p ps ≡ Ok q →
    IsPlaced parent from p ps q
placed parent from p ps q h = placed_one parent from p.number p.offset p.size ps q h

place-is : (parent from n : ℕ) (o z : Option ℕ) (ps : List Sibling) (q : Place) → IsPlaced parent from (make n o z) ps q →
    place_of parent from (make n o z) ps ≡ Ok q
place-is parent from n o None ps q is = grind (arith, nat_tests)
place-is parent from n o (Some s) ps q is = grind (arith, nat_tests)

places-are : (ps : List Sibling) (parent from : ℕ) (qs made : List Place) → ArePlaced parent from ps qs →
    places_from parent from ps made ≡ Ok (made ++ qs)
places-are [] parent from qs made none = rw none (ap Ok (sym (append-nil made)))
places-are (p ∷ ps) parent from [] made none = absurd none
places-are (p ∷ ps) parent from (q ∷ qs) made (one, others) =
    rw (place-is parent from p.number p.offset p.size ps q one)
    (places-are ps parent (place_end q) qs (made ++ q ∷ []) others ∙ ap Ok (append_assoc made (q ∷ []) qs))

are-placed : (ps : List Sibling) (parent from : ℕ) (made all : List Place) → places_from parent from ps made ≡ Ok all →
    (qs : List Place) × (all ≡ made ++ qs) × ArePlaced parent from ps qs
are-placed [] parent from made all h = ([], let same : made ≡ all = cc in sym same ∙ sym (append-nil made), refl)
are-placed (p ∷ ps) parent from made all h =
    let (q, one, rest) = and_then-ok (place_of parent from p ps) _ all h in
    let (qs, same, others) = are-placed ps parent (place_end q) (made ++ q ∷ []) all rest in
    (q ∷ qs, same ∙ append_assoc made (q ∷ []) qs, (placed parent from p ps q one, others))

unambiguous : {A : Type 0} (o : Option ℕ) (r : Result A FmdFault) (x : A) →
    option_map_or (λ n. Err (faults.Ambiguous n)) o r ≡ Ok x → (o ≡ None) × (r ≡ Ok x)
unambiguous None r x h = (refl, h)
unambiguous (Some n) r x h = cc

pub valid-places : (parent : ℕ) (row : List Sibling) (places : List Place) → places_of parent row ≡ Ok places →
    (ambiguous_sibling false row ≡ None) × ArePlaced parent 0 row places
valid-places parent row places h =
    let (clear, laid) = unambiguous (ambiguous_sibling false row) (places_from parent 0 row []) places h in
    let (qs, same, are) = are-placed row parent 0 [] places laid in
    (clear, rw same are)

pub computed-places : (parent : ℕ) (row : List Sibling) (places : List Place) → ambiguous_sibling false row ≡ None →
    ArePlaced parent 0 row places → places_of parent row ≡ Ok places
computed-places parent row places clear are = rw clear (places-are row parent 0 places [] are)

pub length-placed : (ps : List Sibling) (parent from : ℕ) (qs : List Place) → ArePlaced parent from ps qs → length qs ≡ length ps
length-placed [] parent from qs none = ap length none
length-placed (p ∷ ps) parent from [] none = absurd none
length-placed (p ∷ ps) parent from (q ∷ qs) (one, others) = ap suc (length-placed ps parent (place_end q) qs others)

pub placed-inside : (ps : List Sibling) (parent from : ℕ) (qs : List Place) → ArePlaced parent from ps qs →
    list_all (λ q. nat_le (place_end q) parent) qs ≡ true
placed-inside [] parent from qs none = rw none refl
placed-inside (p ∷ ps) parent from [] none = absurd none
placed-inside (p ∷ ps) parent from (q ∷ qs) (one, others) =
    grind (arith, nat_tests, le-leb, placed-inside ps parent (place_end q) qs others)
