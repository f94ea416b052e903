-- The bytes after the entries.
use Rattle.std.proofs.Common.{◌≡◌, ℕ, ◌+◌, ◌-◌, ◌*◌, ◌<◌, ◌≤◌, IsTrue, Bool, true, false, cond, map, zero, suc, All, List, [], ◌∷◌, ◌++◌, length, None, min, refl, sym, ap, ◌∙◌, arith, take, drop, length-take, ⊎_elim}
use Rattle.std.specs.Prelude.{◌↔◌, slice_range}
use Rattle.std.specs.List.{position_from}
use Rattle.std.specs.Option.{option_or}
use Rattle.std.proofs.lemmas.Bool.{cases_lt}
use Rattle.std.proofs.lemmas.List.{drop_all, drop-drop, map-append, take_all, take-take}
use Rattle.std.proofs.lemmas.List.Elements.{All-nil, All-cons, All-head, All-tail}
use Rattle.std.proofs.lemmas.Grind.{common_steps}
use Rattle.flash_device.specs.Pages.{Pages, HasRead}
use Rattle.flash_device.specs.Regions.{LiesOn, Range, bytes_in}
use Rattle.flash_device.proofs.DeviceLemmas.{honest_still, length-bytes_in}
use Rattle.cbfs_walk.proofs.Parts.{length-range, part-in, range_is, range-after}
use Rattle.flash_format.specs.Entry.{front}
use Rattle.std.specs.Prelude.{is_some}
use Rattle.check_findings.specs.Laws.{IsBlankTail}
use Rattle.check_findings.specs.RegionFindings.{is_filled, tail_findings}
use Rattle.check_findings.proofs.RegionLemmas.PartNames.{entries_findings}
use Rattle.check_findings.specs.Lists.{only_if}
use Rattle.check_findings.specs.declared.region.finding.RegionFinding.TheVariants.{Tail, TailEntry}
use Rattle.std.proofs.lemmas.List.FromFn.{filter_of_map_range_with_len_more}

-- ---- the first filled byte

-- of the first n bytes, or else of the others
pub filled_parts : (at n : ℕ) (xs : List ℕ) → position_from is_filled at xs ≡ option_or (position_from is_filled at (take n xs)) (position_from is_filled (at + n) (drop n xs))
filled_parts at zero xs = ap (λ k. position_from is_filled k xs) (omega arith)
filled_parts at (suc n) [] = refl
filled_parts at (suc n) (b ∷ xs) =
    let place : at + 1 + n ≡ at + suc n = omega arith in
    grind (arith, common_steps, rw place at (filled_parts (at + 1) n xs))

-- the piece after the first k bytes of a range
pub piece_is : (x : List ℕ) (at k end n : ℕ) → at + k ≤ end → n ≡ min (end - at - k) 4096 → slice_range x (at + k) (at + k + n) ≡ take 4096 (drop k (slice_range x at end))
piece_is x at k end n inside is =
    range_is x (at + k) n ∙ sym (ap (take 4096) (range-after x at end k inside) ∙ ⊎_elim last whole (cases_lt (end - (at + k)) 4096))
  where
    l : List ℕ
    l = drop (at + k) x

    whole : 4096 ≤ end - (at + k) → take 4096 (take (end - (at + k)) l) ≡ take n l
    whole le = take-take 4096 (end - (at + k)) l le ∙ ap (λ m. take m l) {x = 4096} {y = n} (omega (arith, is, le))

    last : end - (at + k) < 4096 → take 4096 (take (end - (at + k)) l) ≡ take n l
    last le = take_all 4096 (take (end - (at + k)) l) (omega (arith, le, length-take (end - (at + k)) l)) ∙ ap (λ m. take m l) {x = end - (at + k)} {y = n} (omega (arith, is, le))

-- of a piece that was read, or else of the later bytes
pub filled_next : {F : Type 0} (r : Range) (at k n m : ℕ) (old now : Pages F) (bytes : List ℕ) → LiesOn r old.device → HasRead m 0 old now
    → at + k < r.size - 4 → n ≡ min (r.size - at - 4 - k) 4096 → (IsTrue now.device.honest → bytes ≡ slice_range now.device.content (r.start + (at + k)) (r.start + (at + k) + n)) → IsTrue old.device.honest
    → (let x = bytes_in r old.device.content in let l = slice_range x at (length x - 4) in position_from is_filled (at + k) (drop k l) ≡ option_or (position_from is_filled (at + k) bytes) (position_from is_filled (at + (k + 4096)) (drop (k + 4096) l)))
filled_next r at k n m old now bytes lies read inside is shown h =
    let image = old.device.content in
    let x = bytes_in r image in
    let l = drop k (slice_range x at (length x - 4)) in
    let len : length x ≡ r.size = length-bytes_in r image lies.inside in
    let piece : take 4096 l ≡ bytes = sym (
    shown (honest_still read.device.calls.same_honesty h) ∙ ap (λ i. slice_range i (r.start + (at + k)) (r.start + (at + k) + n)) (read.device.unchanged h)
    ∙ part-in image r (at + k) n (omega (arith, is, inside)) ∙ piece_is x at k (length x - 4) n (omega (arith, inside, len)) (omega (arith, is, len))
    ) in
    filled_parts (at + k) 4096 l
    ∙ ap (λ b. option_or (position_from is_filled (at + k) b) (position_from is_filled (at + k + 4096) (drop 4096 l))) piece
    ∙ ap (λ b. option_or (position_from is_filled (at + k) bytes) (position_from is_filled (at + k + 4096) b)) (drop-drop 4096 k (slice_range x at (length x - 4)))
    ∙ ap (λ p. option_or (position_from is_filled (at + k) bytes) (position_from is_filled p (drop (k + 4096) (slice_range x at (length x - 4))))) {x = at + k + 4096} {y = at + (k + 4096)} (omega arith)

-- no byte follows the last piece
pub none_left : (x : List ℕ) (at k : ℕ) → length x - at - 4 ≤ k → position_from is_filled (at + k) (drop k (slice_range x at (length x - 4))) ≡ None
none_left x at k over = ap (position_from is_filled (at + k)) (drop_all k (slice_range x at (length x - 4)) (omega (arith, length-range x at (length x - 4) (omega arith))))

-- ---- entries

if_entry : (at : ℕ) (b : Bool) → map TailEntry (cond b (at ∷ []) []) ≡ only_if b (TailEntry at)
if_entry at true = refl
if_entry at false = refl

pub entries_last : (n at : ℕ) (x : List ℕ) → entries_findings (n + 1) at x ≡ entries_findings n at x ++ only_if (is_some (front (drop (at + 64 * n) x))) (TailEntry (at + 64 * n))
entries_last n at x =
    ap (map TailEntry) (filter_of_map_range_with_len_more (λ p. is_some (front (drop p x))) (λ i. at + 64 * i) 0 n n (omega arith))
    ∙ map-append TailEntry _ _ ∙ ap (λ l. entries_findings n at x ++ l) (if_entry (at + 64 * n) (is_some (front (drop (at + 64 * n) x))))

-- ---- a blank tail

pub none_filled : (at : ℕ) (xs : List ℕ) → position_from is_filled at xs ≡ None → All (λ b. is_filled b ≡ false) xs
none_filled at [] none = All-nil (λ b. is_filled b ≡ false)
none_filled at (b ∷ xs) none = All-cons (λ c. is_filled c ≡ false) b xs (grind (arith, common_steps, none)) (none_filled (at + 1) xs (grind (arith, common_steps, none)))

all_blank : (at : ℕ) (xs : List ℕ) → All (λ b. is_filled b ≡ false) xs → position_from is_filled at xs ≡ None
all_blank at [] blank = refl
all_blank at (b ∷ xs) blank = rw (All-head (λ b. is_filled b ≡ false) b xs blank) (all_blank (at + 1) xs (All-tail (λ b. is_filled b ≡ false) b xs blank))

pub blank_tails : (at : ℕ) (x : List ℕ) → IsBlankTail at x ↔ (tail_findings at x ≡ Tail at ∷ [])
unfolding tail_findings
blank_tails at x = (
  λ blank. rw (all_blank at (slice_range x at (length x - 4)) blank) refl,
  λ only. none_filled at (slice_range x at (length x - 4)) (grind (arith, common_steps, only)),
)
