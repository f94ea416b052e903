-- The search for a map, piece by piece.
use Rattle.std.specs.Option.{option_map}
use Rattle.std.proofs.Common.{⊎_elim, le_refl, zero, suc, ◌≡◌, ◌∙◌, ℕ, ◌+◌, ◌-◌, ◌/◌, ◌<◌, ◌≤◌, IsTrue, List, Option, Some, None, length, take, drop, sym, ap, subst, arith}
use Rattle.std.specs.Prelude.{slice_range, slice_index}
use Rattle.std.proofs.lemmas.Bool.{and_parts, cases_lt, cases_eq}
use Rattle.std.proofs.lemmas.Slice.Eq.{bytes_eq-Decides}
use Rattle.std.proofs.lemmas.List.{get_or-take, get_or-drop, length-take}
use Rattle.std.proofs.lemmas.List.Prefix.{at_from_reads}
use lib.Chars.{codes}
use lib.Dec.{eqb}
use Rattle.memchr.specs.Find.{Nowhere, IsFirst, OccursAt, FindsNeedle}
use Rattle.flash_device.specs.Pages.{Pages, HasRead}
use Rattle.flash_map.specs.Fmap.{map_head, found_from}
use Rattle.flash_format.specs.declared.flashmap.FmapHead.{FmapHead}
use Rattle.flash_format.specs.declared.flashmap.Area.{Area}
use Rattle.flash_format.specs.Flashmap.{is_map, map_from, fmap_head_of, has_signature, is_valid_head, area_of, map_len}
use Rattle.flash_format.proofs.Fronts.{has_signature-take, fmap_head_of-take, area_of-take}
use Rattle.flash_format.proofs.MapSteps.{map_step, map_end, not_map_short}
use Rattle.std.proofs.Common.{Bool, true, false, ◌&&◌, cond, refl, length-drop}
use Rattle.std.proofs.lemmas.Bool.{leb-true, le-leb}
use Rattle.std.proofs.lemmas.Grind.{common_steps}
use Rattle.flash_device.proofs.BytesLemmas.{slice_range_is, length-slice_range}
use Rattle.flash_device.proofs.DeviceLemmas.{honest_still}
use Rattle.flash_device.proofs.WindowLemmas.{HasRead-then, HasRead-within}

-- a map's first bytes
abbrev pub signature : List ℕ
signature = codes "__FMAP__"

abbrev pub HasSignatureAt : List ℕ → ℕ → Type 0
HasSignatureAt image q = has_signature (drop q image) ≡ true

-- a valid map begins at q
abbrev pub IsTableAt : List ℕ → ℕ → Type 0
IsTableAt image q = is_map (drop q image) ≡ true

-- a byte of a part
pub index-slice_range : (xs : List ℕ) (at n i : ℕ) → i < n → slice_index (slice_range xs at (at + n)) i ≡ slice_index xs (at + i)
index-slice_range xs at n i below =
    let size : at + n - at ≡ n = omega arith in
    get_or-take (at + n - at) (drop at xs) i 0 (omega arith) ∙ get_or-drop at xs i 0

-- an occurrence in a part is an occurrence in the whole
pub OccursAt-whole : (xs needle : List ℕ) (at n k : ℕ) → at + n ≤ length xs → OccursAt (slice_range xs at (at + n)) needle k → OccursAt xs needle (at + k)
OccursAt-whole xs needle at n k within occurs =
    let fits : k + length needle ≤ n = rw (length-slice_range xs at n within) at occurs.fits in
    record {
      fits = omega (arith, fits, within);
      reads = λ j below. ap (slice_index xs) {x = at + k + j} {y = at + (k + j)} (omega arith) ∙ sym (index-slice_range xs at n (k + j) (omega (arith, fits, below))) ∙ occurs.reads j below;
    }

-- conversely, if the part contains the occurrence
pub OccursAt-part : (xs needle : List ℕ) (at n k : ℕ) → at + n ≤ length xs → k + length needle ≤ n → OccursAt xs needle (at + k) → OccursAt (slice_range xs at (at + n)) needle k
OccursAt-part xs needle at n k within fits occurs = record {
  fits = rw (length-slice_range xs at n within) fits;
  reads = λ j below. index-slice_range xs at n (k + j) (omega (arith, fits, below)) ∙ ap (slice_index xs) {x = at + (k + j)} {y = at + k + j} (omega arith) ∙ occurs.reads j below;
}

-- a map's bytes lie inside the image and begin with the signature
pub IsTableAt-parts : (image : List ℕ) (q : ℕ) → IsTableAt image q → (q + 56 ≤ length image) × (has_signature (drop q image) ≡ true)
unfolding is_map
IsTableAt-parts image q table =
    let parts = and_parts _ _ table in
    let long : 56 ≤ length (drop q image) = leb-true _ _ parts.0 in
    (omega (arith, length-drop q image, long), (and_parts _ _ parts.1).0)

pub IsTableAt-signature : (image : List ℕ) (q : ℕ) → IsTableAt image q → HasSignatureAt image q
IsTableAt-signature image q table = (IsTableAt-parts image q table).1

long_enough : (front x : List ℕ) (n : ℕ) → front ≡ take n x → length front ≡ n → n ≤ length x
long_enough front x n same size = grind (arith, ap length same, length-take)

-- the signature as an occurrence
pub HasSignatureAt-occurs : (image : List ℕ) (q : ℕ) → HasSignatureAt image q → OccursAt image signature q
unfolding has_signature
HasSignatureAt-occurs image q here =
    let same : signature ≡ take 8 (drop q image) = (bytes_eq-Decides signature (take 8 (drop q image))).0 here in
    let long : 8 ≤ length (drop q image) = long_enough signature (drop q image) 8 same refl in record {
      fits = omega (arith, long, length-drop q image);
      reads = λ j below. sym (get_or-drop q image j 0) ∙ sym (get_or-take 8 (drop q image) j 0 below) ∙ ap (λ xs. slice_index xs j) (sym same);
    }

pub OccursAt-signature : (image : List ℕ) (q : ℕ) → OccursAt image signature q → HasSignatureAt image q
unfolding has_signature
OccursAt-signature image q occurs = rw (at_from_reads 0 image signature q occurs.fits occurs.reads) refl

-- two signatures don't overlap if a byte and the byte d later differ
clash : (image : List ℕ) (q d j : ℕ) → OccursAt image signature q → OccursAt image signature (q + d) → j + d < 8 → eqb (slice_index signature (j + d)) (slice_index signature j) ≡ false → ⊥
clash image q d j first second below differ = grind arith

apart : (image : List ℕ) (q d : ℕ) → OccursAt image signature q → OccursAt image signature (q + d) → 0 < d → d < 6 → ⊥
apart image q zero first second above below = absurd (omega (arith, above))
apart image q (suc zero) first second above below = clash image q 1 1 first second (omega arith) refl
apart image q (suc (suc zero)) first second above below = clash image q 2 0 first second (omega arith) refl
apart image q (suc (suc (suc zero))) first second above below = clash image q 3 0 first second (omega arith) refl
apart image q (suc (suc (suc (suc zero)))) first second above below = clash image q 4 0 first second (omega arith) refl
apart image q (suc (suc (suc (suc (suc zero))))) first second above below = clash image q 5 0 first second (omega arith) refl
apart image q (suc (suc (suc (suc (suc (suc d)))))) first second above below = absurd (omega (arith, below))

-- a signature excludes signatures at the next five offsets
pub signature-apart : (image : List ℕ) (q k : ℕ) → HasSignatureAt image q → q < k → k < q + 6 → HasSignatureAt image k → ⊥
signature-apart image q k first above below second =
    let k_is : k ≡ q + (k - q) = omega (arith, above) in
    apart image q (k - q) (HasSignatureAt-occurs image q first) (HasSignatureAt-occurs image (q + (k - q)) (subst (HasSignatureAt image) k_is second)) (omega (arith, above)) (omega (arith, below, above))

-- the search of a part, as a search of the whole
pub finds_in_whole : (image : List ℕ) (at n : ℕ) (r : Option ℕ) → at + n ≤ length image → FindsNeedle (slice_range image at (at + n)) signature 0 r → IsFirst (HasSignatureAt image) at (at + n - 7) (option_map (λ k. at + k) r)
finds_in_whole image at n None within none = λ k above below here.
    let k_is : k ≡ at + (k - at) = omega (arith, above) in
    let room : n ≤ length (slice_range image at (at + n)) = rw (length-slice_range image at n within) (le_refl n) in
    none (k - at) (omega arith) (omega (arith, room, below, above)) (OccursAt-part image signature at n (k - at) within (omega (arith, below, above)) (subst (OccursAt image signature) k_is (HasSignatureAt-occurs image k here)))
finds_in_whole image at n (Some p) within found =
    let fits : p + 8 ≤ n = rw (length-slice_range image at n within) at found.1.fits in (
      record {
        low = omega arith;
        high = omega (arith, fits);
        before = λ k above below here.
            let k_is : k ≡ at + (k - at) = omega (arith, above) in
            found.0.before (k - at) (omega arith) (omega (arith, below, above)) (OccursAt-part image signature at n (k - at) within (omega (arith, below, above, fits)) (subst (OccursAt image signature) k_is (HasSignatureAt-occurs image k here)));
      },
      OccursAt-signature image (at + p) (OccursAt-whole image signature at n p within found.1),
    )

-- no signature, no map
pub no_tables : (image : List ℕ) (from place end : ℕ) → Nowhere (IsTableAt image) from place → Nowhere (HasSignatureAt image) place end → Nowhere (IsTableAt image) from end
no_tables image from place end before none k above below table =
    ⊎_elim (λ earlier. before k above earlier table) (λ later. none k later below (IsTableAt-signature image k table)) (cases_lt k place)

-- no map directly after a signature without a map
pub no_tables_behind : (image : List ℕ) (from q : ℕ) → Nowhere (IsTableAt image) from q → HasSignatureAt image q → ¬ IsTableAt image q → Nowhere (IsTableAt image) from (q + 6)
no_tables_behind image from q before occurs no_table k above below table =
    ⊎_elim (λ earlier. before k above earlier table)
    (λ later. ⊎_elim (λ same. no_table (subst (IsTableAt image) same table)) (λ other. signature-apart image q k occurs (omega (arith, later, other)) below (IsTableAt-signature image k table)) (cases_eq k q))
    (cases_lt k q)

-- no map begins between two offsets, after at most two successful calls for each six bytes
pub record SearchedTo {F : Type 0} (from place : ℕ) (old new : Pages F) : Type 0 where
  pub above : from ≤ place
  pub within : place ≤ length old.device.content
  pub read : HasRead (place / 3) 0 old new
  pub none : IsTrue old.device.honest → Nowhere (IsTableAt old.device.content) from place

-- after a part without a signature
pub SearchedTo-part : {F : Type 0} (old mid new : Pages F) (from place size : ℕ) → place + size ≤ length old.device.content → 56 ≤ size
    → SearchedTo from place old mid → HasRead 1 0 mid new → (IsTrue mid.device.honest → IsFirst (HasSignatureAt mid.device.content) place (place + size - 7) None)
    → SearchedTo from (place + (size - 7)) old new
SearchedTo-part old mid new from place size within long so_far call none = record {
  above = omega (arith, so_far.above);
  within = omega (arith, within, long);
  read = HasRead-within (place / 3 + 1) ((place + (size - 7)) / 3) 0 old new (omega (arith, long)) (HasRead-then (place / 3) 1 0 old mid new so_far.read call);
  none = λ h.
      let here = rw (so_far.read.device.unchanged h) at (none (honest_still so_far.read.device.calls.same_honesty h)) in
      let end : place + (size - 7) ≡ place + size - 7 = omega (arith, long) in
      rw end (no_tables old.device.content from place (place + size - 7) (so_far.none h) here);
}

-- after a signature without a map
pub SearchedTo-signature : {F : Type 0} (old mid new last : Pages F) (from place q e : ℕ) → q + 8 ≤ length old.device.content → place ≤ q
    → SearchedTo from place old mid → HasRead 1 0 mid new → HasRead 1 0 new last
    → (IsTrue mid.device.honest → IsFirst (HasSignatureAt mid.device.content) place e (Some q)) → (IsTrue new.device.honest → ¬ IsTableAt new.device.content q)
    → SearchedTo from (q + 6) old last
SearchedTo-signature old mid new last from place q e within above so_far call probe first no_table =
    let read : HasRead (place / 3 + 1) 0 old new = HasRead-then (place / 3) 1 0 old mid new so_far.read call in
    record {
      above = omega (arith, so_far.above, above);
      within = omega (arith, within);
      read = HasRead-within (place / 3 + 1 + 1) ((q + 6) / 3) 0 old last (omega (arith, above)) (HasRead-then (place / 3 + 1) 1 0 old new last read probe);
      none = λ h.
          let found = rw (so_far.read.device.unchanged h) at (first (honest_still so_far.read.device.calls.same_honesty h)) in
          let none_here = rw (read.device.unchanged h) at (no_table (honest_still read.device.calls.same_honesty h)) in
          no_tables_behind old.device.content from q (no_tables old.device.content from place q (so_far.none h) found.0.before) found.1 none_here;
    }

-- no map between two offsets: the search continues at the second
pub map_from-skip : (image : List ℕ) (from d : ℕ) → from + d ≤ length image → Nowhere (IsTableAt image) from (from + d) → map_from from (drop from image) ≡ map_from (from + d) (drop (from + d) image)
map_from-skip image from zero le none = let same : from ≡ from + 0 = omega arith in ap (λ k. map_from k (drop k image)) same
map_from-skip image from (suc d) le none =
    let before = map_from-skip image from d (omega arith) (λ j above below. none j above (omega arith)) in
    let next : from + d + 1 ≡ from + suc d = omega arith in
    let here : is_map (drop (from + d) image) ≡ false = no_table (is_map (drop (from + d) image)) (none (from + d) (omega arith) (omega arith)) in
    before ∙ map_step image (from + d) false (omega arith) here ∙ ap (λ j. map_from j (drop j image)) next
  where
    no_table : (b : Bool) → ¬ (b ≡ true) → b ≡ false
    no_table true none = absurd (none refl)
    no_table false none = refl

-- the same by the second offset
skipped : (image : List ℕ) (from k : ℕ) → from ≤ k → k ≤ length image → Nowhere (IsTableAt image) from k → map_from from (drop from image) ≡ map_from k (drop k image)
skipped image from k above le none =
    let same : from + (k - from) ≡ k = omega (arith, above) in
    let nowhere : Nowhere (IsTableAt image) from (from + (k - from)) = λ j low high. none j low (omega (arith, high, same)) in
    map_from-skip image from (k - from) (omega (arith, same, le)) nowhere ∙ ap (λ j. map_from j (drop j image)) same

pub found_none : (image : List ℕ) (from k : ℕ) → from ≤ k → k ≤ length image → length image < k + 56 → Nowhere (IsTableAt image) from k → None ≡ found_from from image
found_none image from k above le short none =
    let all : Nowhere (IsTableAt image) from (length image) = λ j low below table. ⊎_elim (λ earlier. none j low earlier table) (λ later. absurd (omega (arith, short, later, (IsTableAt-parts image j table).0))) (cases_lt j k) in
    rw (skipped image from (length image) (omega arith) (omega arith) all, map_end (length image) image (omega arith)) refl

pub found_some : (image : List ℕ) (from q : ℕ) (h : FmapHead) → from ≤ q → Nowhere (IsTableAt image) from q → IsTableAt image q → h ≡ fmap_head_of (drop q image) → Some (record { at = q; head = h }) ≡ found_from from image
found_some image from q h above none table e =
    let inside : q < length image = omega (arith, (IsTableAt-parts image q table).0) in
    let m : map_from from (drop from image) ≡ Some q = skipped image from q above (omega arith) none ∙ map_step image q true inside table in
    rw (m, e) refl

pub head_none : (x : List ℕ) → None ≡ map_head x → ¬ (is_map x ≡ true)
head_none x e table = grind (arith, common_steps, e, table)

pub head_some : (x : List ℕ) (h : FmapHead) → Some h ≡ map_head x → (is_map x ≡ true) × (h ≡ fmap_head_of x)
head_some x h e = grind (arith, common_steps, e)

-- from the head's own bytes
pub map_head-take : (x bytes : List ℕ) (left : ℕ) → 56 ≤ left → take 56 x ≡ bytes → length x ≡ left → map_head x ≡ cond (has_signature bytes && is_valid_head (fmap_head_of bytes) left) (Some (fmap_head_of bytes)) None
unfolding is_map
map_head-take x bytes left long is size = rw (sym is, sym size, has_signature-take x 56 (omega arith), fmap_head_of-take x 56 (omega arith), le-leb 56 (length x) (omega (arith, long, size))) refl

pub map_head-short : (x : List ℕ) → length x < 56 → None ≡ map_head x
map_head-short x short = rw (not_map_short x short) refl

pub area_read : (bytes image : List ℕ) (p q : ℕ) (a : Area) → a ≡ area_of bytes → bytes ≡ slice_range image p (p + 42) → p ≡ q → a ≡ area_of (drop q image)
area_read bytes image p q a e read same = e ∙ ap area_of (read ∙ slice_range_is image p 42) ∙ area_of-take (drop p image) 42 (omega arith) ∙ ap (λ k. area_of (drop k image)) same

pub head_read : (bytes image : List ℕ) (left p : ℕ) (h : Option FmapHead) → ((x : List ℕ) → take 56 x ≡ bytes → length x ≡ left → h ≡ map_head x) → bytes ≡ slice_range image p (p + 56) → p + left ≡ length image → h ≡ map_head (drop p image)
head_read bytes image left p h answer read size =
    answer (drop p image) (sym (read ∙ slice_range_is image p 56)) (omega (arith, length-drop p image, size))

pub valid_fits : (h : FmapHead) (left : ℕ) → is_valid_head h left ≡ true → map_len h ≤ left
unfolding is_valid_head
valid_fits h left e = leb-true _ _ (and_parts _ _ (and_parts _ _ e).1).1

-- the search ends at a signature's map
pub SearchedTo-table : {F : Type 0} (old mid new : Pages F) (from place q e : ℕ) (h : FmapHead) → SearchedTo from place old mid → HasRead 1 0 mid new
    → (IsTrue mid.device.honest → IsFirst (HasSignatureAt mid.device.content) place e (Some q)) → (IsTrue new.device.honest → Some h ≡ map_head (drop q new.device.content))
    → IsTrue old.device.honest → Some (record { at = q; head = h }) ≡ found_from from old.device.content
SearchedTo-table old mid new from place q e h so_far call first table honest =
    let read : HasRead (place / 3 + 1) 0 old new = HasRead-then (place / 3) 1 0 old mid new so_far.read call in
    let image : List ℕ = old.device.content in
    let found = rw (so_far.read.device.unchanged honest) at (first (honest_still so_far.read.device.calls.same_honesty honest)) in
    let here = head_some (drop q image) h (rw (read.device.unchanged honest) at (table (honest_still read.device.calls.same_honesty honest))) in
    found_some image from q h (omega (arith, so_far.above, found.0.low)) (no_tables image from place q (so_far.none honest) found.0.before) here.0 here.1
