-- Consecutive calls of a device, for all crates which read devices.
use Rattle.std.proofs.Common.{◌≡◌, ℕ, ◌+◌, ◌≤◌, Bool, IsTrue, refl, sym, ◌∙◌, subst, arith, ◌-◌, ◌++◌, take, drop}
use Rattle.std.specs.Prelude.{List, length, Result, Ok, Err, IsOk}
use Rattle.std.proofs.Common.{length-take, length-drop}
use Rattle.flash_device.specs.Regions.{Range, LiesIn, LiesOn, bytes_in}
use Rattle.std.proofs.lemmas.List.{length-take-le, take_at}
use Rattle.flash_device.specs.Device.{Device, Calls, Reads, OneRead, refusals}

pub honest_still : {old new : Bool} → new ≡ old → IsTrue old → IsTrue new
honest_still {old} {new} e h = subst (λ b. IsTrue b) (sym e) h

pub refusals-ok : {T E : Type 0} (result : Result T E) → IsOk result → refusals result ≡ 0
refusals-ok (Ok value) ok = refl
refusals-ok (Err fault) ok = absurd cc

-- more calls, of which the last may fail
pub Calls-then : (n k refused : ℕ) (old mid new : Device) → Calls n 0 old mid → Calls k refused mid new → Calls (n + k) refused old new
Calls-then n k refused old mid new first second = grind arith

-- with a larger bound
pub Calls-at_most : (k n refused : ℕ) (old new : Device) → new.calls ≤ old.calls + n → Calls k refused old new → Calls n refused old new
Calls-at_most k n refused old new few calls = grind arith

pub Reads-none : (d : Device) → Reads 0 0 d d
Reads-none d = grind arith

pub Reads-then : (n k refused : ℕ) (old mid new : Device) → Reads n 0 old mid → Reads k refused mid new → Reads (n + k) refused old new
Reads-then n k refused old mid new first second = grind arith

-- calls keep the length
pub LiesOn-calls : {r : Range} {n refused : ℕ} {old new : Device} → Calls n refused old new → LiesOn r old → LiesOn r new
LiesOn-calls calls lies = record { inside = omega (arith, calls.same_length, lies.inside); below = omega (arith, calls.same_length, lies.below) }

pub length-bytes_in : (r : Range) (image : List ℕ) → LiesIn r image → length (bytes_in r image) ≡ r.size
length-bytes_in r image lies = omega (arith, lies, length-take (r.start + r.size - r.start) (drop r.start image), length-drop r.start image)

-- a read into the front of a buffer
pub OneRead-front : {T E : Type 0} {at : ℕ} {old new : Device} {result : Result T E} (n : ℕ) (buffer part : List ℕ) → n ≤ length buffer
    → length part ≡ length (take n buffer) → OneRead at (length (take n buffer)) old new result part → OneRead at n old new result (take n (part ++ drop n buffer))
OneRead-front {at = at} {old = old} {new = new} {result = result} n buffer part room same_size read =
    let size : length (take n buffer) ≡ n = length-take-le n buffer room in
    rw (take_at part (drop n buffer) n (same_size ∙ size)) (subst (λ n. OneRead at n old new result part) size read)
