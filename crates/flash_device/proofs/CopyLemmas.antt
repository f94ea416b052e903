-- Copies, piece by piece: calls, and bytes put, filled or copied.
use Rattle.std.proofs.Common.{refl, IsTrue, replicate, ◌≡◌, ℕ, ◌+◌, ◌-◌, ◌/◌, ◌%◌, ◌<◌, ◌≤◌, ◌++◌, List, Option, None, Some, length, take, drop, sym, ap, subst, ◌∙◌, arith, append_assoc}
use Rattle.std.specs.Prelude.{slice_range, Result, Ok, Err, OnErr}
use Rattle.std.specs.Io.KnownBytes.{Appends, Keeps}
use Rattle.std.proofs.KnownBytes.{Appends-trans}
use Rattle.std.proofs.Math.Seq.{take-add}
use Rattle.std.proofs.lemmas.List.{drop-drop, take-take, length-take-le, take-replicate, drop-replicate, length-replicate}
use Rattle.flash_device.specs.Device.{overwritten, FirstWritten, SameOutside, Device, Calls}
use Rattle.flash_device.proofs.BytesLemmas.{SameOutside-overwritten, slice_range_is, length-slice_range, written-torn}
use Rattle.flash_device.proofs.DeviceLemmas.{Calls-then, Calls-at_most}
use Rattle.flash_device.specs.Pages.{Pages, HasFilled, HasRead}
use Rattle.flash_device.proofs.WindowLemmas.{HasRead-then, HasRead-within}
use Rattle.flash_device.specs.Device.{AppendsPart}

-- a call for each piece of 4096 bytes, or a shorter last piece
pub Calls-piece : (done n refused : ℕ) (old mid new : Device) → done < n → done % 4096 ≡ 0 → Calls ((done + 4095) / 4096) 0 old mid → Calls 1 refused mid new → Calls ((n + 4095) / 4096) refused old new
Calls-piece done n refused old mid new more whole so_far call =
    Calls-at_most ((done + 4095) / 4096 + 1) ((n + 4095) / 4096) refused old new (omega (arith, so_far.no_more, call.no_more)) (Calls-then ((done + 4095) / 4096) 1 refused old mid new so_far call)

pub HasRead-piece : {F : Type 0} (done n refused : ℕ) (old mid new : Pages F) → done < n → done % 4096 ≡ 0 → HasRead ((done + 4095) / 4096) 0 old mid → HasRead 1 refused mid new
    → HasRead ((n + 4095) / 4096) refused old new
HasRead-piece done n refused old mid new more whole so_far piece =
    HasRead-within ((done + 4095) / 4096 + 1) ((n + 4095) / 4096) refused old new (omega (arith, more, whole)) (HasRead-then ((done + 4095) / 4096) 1 refused old mid new so_far piece)

pub slice_range-join : (xs : List ℕ) (at m k : ℕ) → slice_range xs at (at + m) ++ slice_range xs (at + m) (at + m + k) ≡ slice_range xs at (at + (m + k))
slice_range-join xs at m k =
    rw (slice_range_is xs at m, slice_range_is xs (at + m) k, slice_range_is xs at (m + k))
    (ap (λ rest. take m (drop at xs) ++ take k rest) (sym (drop-drop m at xs)) ∙ sym (take-add m k (drop at xs)))

pub Appends-more : (a b c : Option (List ℕ)) (xs : List ℕ) (at m k : ℕ) → Appends a b (slice_range xs at (at + m)) → Appends b c (slice_range xs (at + m) (at + m + k)) → Appends a c (slice_range xs at (at + (m + k)))
Appends-more a b c xs at m k first second = rw (slice_range-join xs at m k) at (Appends-trans a b c _ _ first second)

pub AppendsPart-more : (a b c : Option (List ℕ)) (xs : List ℕ) (at m k n : ℕ) → m + k ≤ n → at + n ≤ length xs → Appends a b (slice_range xs at (at + m)) → AppendsPart b c (slice_range xs (at + m) (at + m + k)) → AppendsPart a c (slice_range xs at (at + n))
AppendsPart-more a b c xs at m k n short within first part =
    let j = part.0 in
    let j_below : j < k = rw (length-slice_range xs (at + m) k (omega arith)) at part.1 in
    let second : take j (slice_range xs (at + m) (at + m + k)) ≡ slice_range xs (at + m) (at + m + j) =
    ap (take j) (slice_range_is xs (at + m) k) ∙ take-take j k (drop (at + m) xs) (omega arith) ∙ sym (slice_range_is xs (at + m) j) in
    let all : slice_range xs at (at + (m + j)) ≡ take (m + j) (slice_range xs at (at + n)) =
    slice_range_is xs at (m + j) ∙ sym (take-take (m + j) n (drop at xs) (omega arith)) ∙ ap (take (m + j)) (sym (slice_range_is xs at n)) in (
      m + j,
      rw (length-slice_range xs at n within) (omega (arith, short)),
      rw all at (Appends-more a b c xs at m j first (rw second at part.2)),
    )

pub Appends-keeps : (a b c : Option (List ℕ)) (xs : List ℕ) → Appends a b xs → Keeps b c → Appends a c xs
Appends-keeps None b c xs so_far kept = tt
Appends-keeps (Some x) None c xs so_far kept = absurd so_far
Appends-keeps (Some x) (Some y) None xs so_far kept = absurd kept
Appends-keeps (Some x) (Some y) (Some z) xs so_far kept = kept ∙ so_far

pub OnErr-from : {T E P : Type 0} (result : Result T E) → P → OnErr result P
OnErr-from (Ok x) p = tt
OnErr-from (Err e) p = p

-- a piece of repeated bytes
pub copies-part : (copies : List ℕ) (done size n byte : ℕ) → copies ≡ replicate 4096 byte → size ≤ 4096 → done + size ≤ n → take size copies ≡ take size (drop done (replicate n byte))
copies-part copies done size n byte all short within =
    ap (take size) all ∙ take-replicate size 4096 byte short ∙ sym (take-replicate size (n - done) byte (omega (arith, within))) ∙ ap (take size) (sym (drop-replicate done n byte))

-- a prefix of a longer input
pub Copied-front : (old mid input : List ℕ) (at done n : ℕ) → done ≤ n → mid ≡ overwritten old at (take done input) → mid ≡ overwritten old at (take done (take n input))
Copied-front old mid input at done n below so_far = so_far ∙ ap (overwritten old at) (sym (take-take done n input below))

-- stopped by the input
pub Copied-stopped : {H G : Type 0} (old mid input : List ℕ) (at done n : ℕ) → done < n → n ≤ length input → (H → G → mid ≡ overwritten old at (take done input)) → H → G → FirstWritten at (take n input) old mid
Copied-stopped old mid input at done n left has so_far h s =
    (done, rw (length-take-le n input has) left, Copied-front old mid input at done n (omega (arith, left)) (so_far h s))

-- a watcher's first bytes and the next piece
pub shown-more : (Saw : List ℕ → Type 0) (seen content piece : List ℕ) (done size : ℕ) → piece ≡ take size (drop done content) → Saw ((seen ++ take done content) ++ piece) → Saw (seen ++ take (done + size) content)
shown-more Saw seen content piece done size is saw =
    let joined : (seen ++ take done content) ++ piece ≡ seen ++ take (done + size) content =
    append_assoc seen (take done content) piece ∙ ap (λ (l : List ℕ). seen ++ (take done content ++ l)) is ∙ ap (λ (l : List ℕ). seen ++ l) (sym (take-add done size content)) in
    subst (λ (l : List ℕ). Saw l) joined saw

-- a fill changes only its range
pub filled-outside : {T E : Type 0} (at n byte : ℕ) (old new : Device) (result : Result T E) → at ≤ length old.content → HasFilled at n byte old new result → IsTrue old.honest → SameOutside at n old.content new.content
filled-outside at n byte old new (Ok value) inside fill h = rw (fill.filled h) (SameOutside-overwritten old.content at n (replicate n byte) (omega (arith, length-replicate n byte)) inside)
filled-outside at n byte old new (Err fault) inside fill h =
    let part = fill.part h in
    rw (length-replicate n byte) at (written-torn old.content _ new.content at part.done part.torn (replicate n byte) part.within inside refl part.same)
