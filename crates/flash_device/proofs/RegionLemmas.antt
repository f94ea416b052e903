-- A region's bytes after writes to the image.
use Rattle.std.proofs.Common.{◌≡◌, ◌⊎◌, inl, inr, ℕ, ◌+◌, ◌-◌, ◌≤◌, List, length, take, drop, refl, sym, ◌∙◌, ap, arith}
use Rattle.std.specs.Prelude.{slice_range, Result, Ok, Err, OnOk}
use Rattle.std.proofs.lemmas.List.{take-take, drop-drop, drop-take}
use Rattle.flash_device.specs.Device.{overwritten, SameOutside}
use Rattle.flash_device.specs.Regions.{Range, LiesIn, bytes_in}
use Rattle.flash_device.proofs.BytesLemmas.{slice_range_is, SameOutside-overwritten, SameOutside-trans, length-overwritten, overwritten-range, overwritten-later, overwritten-earlier, changed-overwritten}
use Rattle.flash_device.proofs.DeviceLemmas.{length-bytes_in}

-- a part of a region is a part of the image
pub part-bytes_in : (image : List ℕ) (r : Range) (at n : ℕ) → at + n ≤ r.size → slice_range image (r.start + at) (r.start + at + n) ≡ slice_range (bytes_in r image) at (at + n)
part-bytes_in image r at n fits =
    let size : r.size ≡ at + (r.size - at) = omega (arith, fits) in
    slice_range_is image (r.start + at) n
    ∙ ap (take n) (sym (drop-drop at r.start image))
    ∙ sym (take-take n (r.size - at) (drop at (drop r.start image)) (omega (arith, fits)))
    ∙ ap (take n) (sym (drop-take at (r.size - at) (drop r.start image)))
    ∙ ap (λ k. take n (drop at (take k (drop r.start image)))) (sym size)
    ∙ ap (λ (l : List ℕ). take n (drop at l)) (sym (slice_range_is image r.start r.size))
    ∙ sym (slice_range_is (bytes_in r image) at n)

prefix : (r : Range) (x : List ℕ) (at : ℕ) → at ≤ r.size → take at (bytes_in r x) ≡ drop r.start (take (r.start + at) x)
prefix r x at below = ap (λ (l : List ℕ). take at l) (slice_range_is x r.start r.size) ∙ take-take at r.size (drop r.start x) below ∙ sym (drop-take r.start at x)

rest : (r : Range) (x : List ℕ) (to : ℕ) → to ≤ r.size → drop to (bytes_in r x) ≡ take (r.size - to) (drop (r.start + to) x)
rest r x to below =
    let sum : r.size ≡ to + (r.size - to) = omega arith in
    ap (λ (l : List ℕ). drop to l) (slice_range_is x r.start r.size)
    ∙ ap (λ n. drop to (take n (drop r.start x))) sum
    ∙ drop-take to (r.size - to) (drop r.start x)
    ∙ ap (λ (l : List ℕ). take (r.size - to) l) (drop-drop to r.start x)

-- a change in the region
pub changed_in : (r : Range) (x y : List ℕ) (at n : ℕ) → at + n ≤ r.size → SameOutside (r.start + at) n x y → SameOutside at n (bytes_in r x) (bytes_in r y)
changed_in r x y at n fits same =
    let end : r.start + at + n ≡ r.start + (at + n) = omega arith in
    let after : drop (r.start + (at + n)) y ≡ drop (r.start + (at + n)) x = rw end at same.after in
    record {
      before = prefix r y at (omega arith) ∙ ap (λ (l : List ℕ). drop r.start l) same.before ∙ sym (prefix r x at (omega arith));
      after = rest r y (at + n) fits ∙ ap (λ (l : List ℕ). take (r.size - (at + n)) l) after ∙ sym (rest r x (at + n) fits);
    }

-- a write in the region
pub written_in : (r : Range) (x : List ℕ) (at : ℕ) (u : List ℕ) → LiesIn r x → at + length u ≤ r.size → bytes_in r (overwritten x (r.start + at) u) ≡ overwritten (bytes_in r x) at u
written_in r x at u lies fits =
    let y : List ℕ = overwritten x (r.start + at) u in
    let same : SameOutside (r.start + at) (length u) x y = SameOutside-overwritten x (r.start + at) (length u) u (omega arith) (omega (arith, lies)) in
    let long : length y ≡ length x = length-overwritten x (r.start + at) u (omega (arith, lies)) in
    let lies_y : LiesIn r y = omega (arith, lies) in
    let size : length (bytes_in r x) ≡ r.size = length-bytes_in r x lies in
    changed-overwritten (bytes_in r x) (bytes_in r y) at (length u) (omega arith) (length-bytes_in r y lies_y ∙ sym size) (changed_in r x y at (length u) fits same)
    ∙ ap (λ (l : List ℕ). overwritten (bytes_in r x) at l) (sym (part-bytes_in y r at (length u) fits) ∙ overwritten-range x (r.start + at) u (omega (arith, lies)))

-- a write before or after the region
pub written_beside : (r : Range) (x : List ℕ) (at : ℕ) (u : List ℕ) → at ≤ length x → (at + length u ≤ r.start) ⊎ (r.start + r.size ≤ at) → bytes_in r (overwritten x at u) ≡ bytes_in r x
written_beside r x at u inside (inl before) = overwritten-later x at u r.start r.size before inside
written_beside r x at u inside (inr after) = overwritten-earlier x at u r.start r.size after inside

-- ---- with the image offset as a number

pub outside_of : (r : Range) (x y : List ℕ) (p at n : ℕ) → p ≡ r.start + at → at + n ≤ r.size → SameOutside p n x y → SameOutside r.start r.size x y
outside_of r x y p at n place fits same = SameOutside-trans x x y r.start r.size at n fits (record { before = refl; after = refl }) (rw place at same)

pub changed_at : (r : Range) (x y : List ℕ) (p at n : ℕ) → p ≡ r.start + at → at + n ≤ r.size → SameOutside p n x y → SameOutside at n (bytes_in r x) (bytes_in r y)
changed_at r x y p at n place fits same = changed_in r x y at n fits (rw place at same)

pub written_to : (r : Range) (x y : List ℕ) (p at n : ℕ) (u : List ℕ) → LiesIn r x → p ≡ r.start + at → length u ≡ n → at + n ≤ r.size → y ≡ overwritten x p u → bytes_in r y ≡ overwritten (bytes_in r x) at u
written_to r x y p at n u lies place size fits is =
    ap (λ (l : List ℕ). bytes_in r l) is ∙ ap (λ q. bytes_in r (overwritten x q u)) place ∙ written_in r x at u lies (omega arith)

pub written_ok : {A E : Type 0} (result : Result A E) (r : Range) (x y : List ℕ) (p at n : ℕ) (u : List ℕ) → LiesIn r x → p ≡ r.start + at → length u ≡ n → at + n ≤ r.size → OnOk result (y ≡ overwritten x p u)
    → OnOk result (bytes_in r y ≡ overwritten (bytes_in r x) at u)
written_ok (Ok a) r x y p at n u lies place size fits is = written_to r x y p at n u lies place size fits is
written_ok (Err e) r x y p at n u lies place size fits is = tt

pub written_whole : (r : Range) (x y : List ℕ) (p at n : ℕ) (u : List ℕ) → LiesIn r x → p ≡ r.start + at → length u ≡ n → at + n ≤ r.size → (y ≡ x) ⊎ (y ≡ overwritten x p u)
    → (bytes_in r y ≡ bytes_in r x) ⊎ (bytes_in r y ≡ overwritten (bytes_in r x) at u)
written_whole r x y p at n u lies place size fits (inl same) = inl (ap (λ (l : List ℕ). bytes_in r l) same)
written_whole r x y p at n u lies place size fits (inr is) = inr (written_to r x y p at n u lies place size fits is)

-- the image by its region, without other changes
pub image_is : (r : Range) (x y u : List ℕ) → LiesIn r x → length y ≡ length x → SameOutside r.start r.size x y → bytes_in r y ≡ u → y ≡ overwritten x r.start u
image_is r x y u lies size same is = changed-overwritten x y r.start r.size lies size same ∙ ap (λ (l : List ℕ). overwritten x r.start l) is
