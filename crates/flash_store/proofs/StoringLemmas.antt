-- Partial transfers.
use Rattle.std.proofs.Common.{◌≡◌, ◌⊎◌, ◌∙◌, sym, ap, subst, take-add, IsTrue, Bool, ℕ, ◌+◌, ◌-◌, ◌≤◌, List, length, take, drop, arith, ◌++◌, length-append, length-take, length-drop, replicate, refl, inl, inr}
use Rattle.std.proofs.lemmas.List.{length-take-le, take_rest, drop-drop, length-replicate, take-replicate, replicate-append-replicate, drop-replicate, take-take, drop-take, take-append-le}
use Rattle.std.proofs.lemmas.Slice.{take-put_mid}
use Rattle.std.proofs.Math.Seq.{take-append-add, take-length}
use borrow.Rule.Slice.PartMut.{put_mid}
use Rattle.flash_format.specs.Made.{header_length}
use Rattle.flash_device.specs.Device.{overwritten, SameOutside}
use Rattle.flash_store.specs.Files.{Stored, SameFile, SameBytes, IsReserved, HasReadSome, HasWrittenSome, IsErased}
use Rattle.std.specs.Prelude.{slice_range, Result, Ok, Err}
use Rattle.flash_device.proofs.BytesLemmas.{nearer, further, slice_range_is, part_of_window, overwritten_is, length-overwritten, overwritten-range, overwritten-same, SameOutside-overwritten}

pub faithful_still : {old new : Bool} → new ≡ old → IsTrue old → IsTrue new
faithful_still same h = subst IsTrue (sym same) h

pub SameFile-trans : {a b c : Stored} → SameFile a b → SameFile b c → SameFile a c
SameFile-trans first second = grind arith

-- the length of the remaining bytes
pub length-rest : (bytes : List ℕ) (done : ℕ) → length (take (length bytes - done) (drop done bytes)) ≡ length bytes - done
length-rest bytes done = ap length (take_rest bytes done) ∙ length-drop done bytes

-- a list with a replaced end
pub length-ended : (out tail : List ℕ) (done : ℕ) → done ≤ length out → length tail ≡ length out - done → length (put_mid done (length out - done) out tail) ≡ length out
length-ended out tail done within size = grind (arith, length-append, length-take, length-drop)

ended : (out tail : List ℕ) (done : ℕ) → done ≤ length out → length tail ≡ length out - done → put_mid done (length out - done) out tail ≡ take done out ++ tail
ended out tail done within size =
    sym (take-length (put_mid done (length out - done) out tail))
    ∙ take-put_mid done (length out - done) out tail (length (put_mid done (length out - done) out tail)) (length-ended out tail done within size ∙ omega (arith, within, size)) within

-- one more partial read
pub Read-more : (out tail x : List ℕ) (at done n : ℕ) → done ≤ length out → length tail ≡ length out - done
    → take done out ≡ take done (drop at x) → take n tail ≡ take n (drop (at + done) x)
    → take (done + n) (put_mid done (length out - done) out tail) ≡ take (done + n) (drop at x)
Read-more out tail x at done n within size had now =
    ap (take (done + n)) (ended out tail done within size)
    ∙ ap (λ k. take (k + n) (take done out ++ tail)) (sym (length-take-le done out within))
    ∙ take-append-add (take done out) tail n
    ∙ ap (λ front. front ++ take n tail) had
    ∙ ap (λ rest. take done (drop at x) ++ rest) (now ∙ ap (take n) (sym (drop-drop done at x)))
    ∙ sym (take-add done n (drop at x))

pub SameBytes-trans : {a b c : Stored} → SameBytes a b → SameBytes b c → SameBytes a c
SameBytes-trans first second = grind arith

-- 0xff after 0xff
pub Erased-more : (mid new : List ℕ) (at n m : ℕ) → n ≤ m → at + n ≤ length mid → take at mid ≡ replicate at 255
    → new ≡ overwritten mid at (take n (replicate m 255)) → take (at + n) new ≡ replicate (at + n) 255
Erased-more mid new at n m short inside so_far now =
    let xs : List ℕ = replicate n 255 in
    let size : length xs ≡ n = length-replicate n 255 in
    ap (take (at + n)) (now ∙ ap (overwritten mid at) (take-replicate n m 255 short))
    ∙ ap (λ k. take (at + k) (overwritten mid at xs)) (sym size)
    ∙ ap (take (at + length xs)) (overwritten_is mid at xs)
    ∙ take-put_mid at (length xs) mid xs (at + length xs) refl (omega (arith, inside))
    ∙ ap (λ front. front ++ xs) so_far
    ∙ replicate-append-replicate at n 255

-- ---- erased ranges

pub IsErased-part : (x : List ℕ) (from to at n : ℕ) → from ≤ at → at + n ≤ to → IsErased from to x → slice_range x at (at + n) ≡ replicate n 255
IsErased-part x from to at n low high all =
    let m : ℕ = to - from in
    let same : take m (replicate m 255) ≡ slice_range x from (from + m) = take-replicate m m 255 (omega arith) ∙ sym all ∙ ap (slice_range x from) (omega (arith, low, high)) in
    sym (part_of_window (replicate m 255) x from m at n same low (omega (arith, low, high)))
    ∙ slice_range_is (replicate m 255) (at - from) n ∙ ap (take n) (drop-replicate (at - from) m 255) ∙ take-replicate n (m - (at - from)) 255 (omega (arith, low, high))

pub IsErased-inside : (x : List ℕ) (from to a b : ℕ) → from ≤ a → a ≤ b → b ≤ to → IsErased from to x → IsErased a b x
IsErased-inside x from to a b low order high all =
    let whole : a + (b - a) ≡ b = omega (arith, order) in
    subst (λ k. slice_range x a k ≡ replicate (b - a) 255) whole (IsErased-part x from to a (b - a) low (omega (arith, order, high)) all)

-- a range outside a change
pub IsErased-apart : (x y : List ℕ) (at n from to : ℕ) → from ≤ to → (from ≡ to) ⊎ (to ≤ at) ⊎ (at + n ≤ from) → SameOutside at n x y → IsErased from to x → IsErased from to y
IsErased-apart x y at n from to order (inl none) same all = let zero : to - from ≡ 0 = omega (arith, none) in rw zero refl
IsErased-apart x y at n from to order (inr (inl before)) same all =
    let whole : from + (to - from) ≡ to = omega (arith, order) in
    sym (drop-take from (to - from) y)
    ∙ ap (drop from) (nearer x y (from + (to - from)) at (omega (arith, order, before)) same.before)
    ∙ drop-take from (to - from) x
    ∙ all
IsErased-apart x y at n from to order (inr (inr behind)) same all =
    ap (take (to - from)) (further x y (at + n) from behind same.after) ∙ all

-- a part of the window
pub Held-part : (window x : List ℕ) (from held at n : ℕ) → from ≤ at → at - from ≤ held → n ≤ held - (at - from) → take held window ≡ take held (drop from x)
    → take n (take (held - (at - from)) (drop (at - from) window)) ≡ take n (drop at x)
Held-part window x from held at n before within short had =
    take-take n (held - (at - from)) (drop (at - from) window) short
    ∙ sym (slice_range_is window (at - from) n)
    ∙ part_of_window window x from held at n (had ∙ sym (slice_range_is x from held)) before (omega (arith, before, within, short))
    ∙ slice_range_is x at n

-- a read into the front of a longer list
pub front_read : {E : Type 0} (at n : ℕ) (old new : Stored) (result : Result ℕ E) (part rest : List ℕ) → n ≤ length part
    → HasReadSome at n old new result part → HasReadSome at n old new result (part ++ rest)
front_read at n old new (Ok k) part rest room r = record {
  after = r.after;
  short = r.short;
  read = λ h. take-append-le k part rest (omega (arith, r.short, room)) ∙ r.read h;
}
front_read at n old new (Err fault) part rest room r = record { after = r.after; short = r.short; read = r.read }

-- a partial write of present bytes
pub same-first : (x : List ℕ) (at k : ℕ) (bytes : List ℕ) → at + length bytes ≤ length x → k ≤ length bytes
    → overwritten x at bytes ≡ x → overwritten x at (take k bytes) ≡ x
same-first x at k bytes inside short same =
    let n = length bytes in
    let there : slice_range x at (at + n) ≡ bytes = ap (λ y. slice_range y at (at + n)) (sym same) ∙ overwritten-range x at bytes (omega (arith, inside)) in
    let first : take k bytes ≡ slice_range x at (at + k) =
    ap (take k) (sym there ∙ slice_range_is x at n) ∙ take-take k n (drop at x) short ∙ sym (slice_range_is x at k) in
    ap (overwritten x at) first ∙ overwritten-same x at k (omega (arith, inside, short))

-- the contract state of an equal file
pub stored_alike : {x y : List ℕ} {faith : Bool} {a b m n : ℕ} → x ≡ y → a ≡ b → m ≡ n →
    ◌≡◌ {A = Stored} (record { content = x; faithful = faith; written_at = a; written_len = m })
    (record { content = y; faithful = faith; written_at = b; written_len = n })
stored_alike same place count = rw (same, place, count) refl

-- bytes after a read are present
pub there-again : (old mid out : List ℕ) (at n : ℕ) → at + n ≤ length old → out ≡ slice_range old at (at + n) → mid ≡ old
    → overwritten mid at out ≡ mid
there-again old mid out at n inside read same =
    ap (λ x. overwritten x at out) same ∙ ap (overwritten old at) read ∙ overwritten-same old at n inside ∙ sym same

-- a partial write to a faithful file, after a call without effect
pub written_some : {E : Type 0} (old new : Stored) (mid : List ℕ) (at : ℕ) (bytes : List ℕ) (k : ℕ)
    → at + length bytes ≤ length old.content → k ≤ length bytes
    → (length bytes ≤ header_length → IsReserved at (length bytes) old → k ≡ length bytes)
    → mid ≡ old.content → new.content ≡ overwritten mid at (take k bytes) → new.faithful ≡ old.faithful
    → new.written_at ≡ at → new.written_len ≡ length (take k bytes)
    → HasWrittenSome {E = E} at bytes old new (Ok k)
written_some old new mid at bytes k inside short whole kept now faith place count =
    let size : length (take k bytes) ≡ k = length-take-le k bytes short in
    let x = old.content in
    let over : new.content ≡ overwritten x at (take k bytes) = now ∙ ap (λ y. overwritten y at (take k bytes)) kept in
    record {
      after = record { same_faith = faith; same_length = ap length over ∙ length-overwritten x at (take k bytes) (omega (arith, size, inside, short)) };
      short = short;
      written = λ h. over;
      torn = λ h. rw over (SameOutside-overwritten x at (length bytes) (take k bytes) (omega (arith, size, short)) (omega (arith, inside)));
      same = λ h there. over ∙ same-first x at k bytes inside short there;
      whole = λ h small room. inr (over ∙ ap (overwritten x at) (ap (λ n. take n bytes) (whole small room) ∙ take-length bytes));
      room = λ h small all. record { place = place; count = count ∙ size ∙ all };
    }
