-- Reads through the window: effects and numbers of calls, for all crates which read devices.
use Rattle.std.proofs.Common.{◌≡◌, ◌∙◌, ℕ, ◌+◌, ◌-◌, ◌≤◌, IsTrue, List, length, take, min, sym, arith, ⊎_elim}
use Rattle.std.proofs.Common.{length-take}
use Rattle.std.specs.Prelude.{slice_range}
use Rattle.std.proofs.lemmas.Bool.{cases_lt}
use Rattle.std.proofs.lemmas.List.{take-take}
use Rattle.std.proofs.Math.Seq.{take-length}
use Rattle.flash_device.specs.Device.{Device}
use Rattle.flash_device.specs.Pages.{Held, Nothing, Window, Piece, Pages, IsTrueTo, Covers, held_in, HasRead}
use Rattle.flash_device.specs.declared.paged.Buffered.{Buffered}
use Rattle.flash_device.specs.declared.paged.Buffered.TheVariants as code
use Rattle.flash_device.proofs.BytesLemmas.{part_of_window}
use Rattle.flash_device.proofs.DeviceLemmas.{Reads-none}

-- a part of a buffer with a window over the part
pub part_read : (device : Device) (buffer : List ℕ) (held : Buffered) (from size at n : ℕ) → held ≡ code.Window from size → IsTrueTo device (held_in buffer held) → Covers (held_in buffer held) at n → IsTrue device.honest
    → slice_range buffer (at - from) (at - from + n) ≡ slice_range device.content at (at + n)
part_read device buffer held from size at n is true_to covers h =
    let window : IsTrueTo device (Window from (take size buffer)) = rw is at true_to in
    let there : (from ≤ at) × (at + n ≤ from + length (take size buffer)) = rw is at covers in
    let k = length (take size buffer) in
    let short : k ≤ size = omega (arith, length-take size buffer) in
    part_of_window buffer device.content from k at n (sym (take-take k size buffer short) ∙ take-length (take size buffer) ∙ window.1 h) there.0 there.1

pub Covers-part : (held : Held) (at n done size : ℕ) → done + size ≤ n → Covers held at n → Covers held (at + done) size
Covers-part (Window from bytes) at n done size within covers = (omega (arith, covers.0), omega (arith, covers.1, within))
Covers-part Nothing at n done size within covers = covers
Covers-part (Piece bytes) at n done size within covers = covers

pub HasRead-none : {F : Type 0} (p : Pages F) → HasRead 0 0 p p
HasRead-none p = record { device = Reads-none p.device; window = λ h. h }

pub HasRead-then : {F : Type 0} (n k refused : ℕ) (old mid new : Pages F) → HasRead n 0 old mid → HasRead k refused mid new → HasRead (n + k) refused old new
HasRead-then n k refused old mid new first second = grind arith

-- with a larger bound
pub HasRead-at_most : {F : Type 0} (k n refused : ℕ) (old new : Pages F) → new.device.calls ≤ old.device.calls + n → HasRead k refused old new → HasRead n refused old new
HasRead-at_most k n refused old new few read = grind arith

pub HasRead-within : {F : Type 0} (n k refused : ℕ) (old new : Pages F) → n ≤ k → HasRead n refused old new → HasRead k refused old new
HasRead-within n k refused old new le read = HasRead-at_most n k refused old new (omega (arith, read.device.calls.no_more, le)) read

-- by whether a window covers a range
pub covered : (held : Held) (at n : ℕ) (P : Type 0) → (Covers held at n → P) → ((Covers held at n → ⊥) → P) → P
covered Nothing at n P inside outside = outside (λ c. c)
covered (Window from bytes) at n P inside outside =
    ⊎_elim (λ below. outside (λ c. absurd (omega (arith, below, c.0))))
    (λ above. ⊎_elim (λ past. outside (λ c. absurd (omega (arith, past, c.1)))) (λ within. inside (above, within)) (cases_lt (from + length bytes) (at + n)))
    (cases_lt at from)
covered (Piece bytes) at n P inside outside = outside (λ c. c)

-- a loaded window contains the next 4096 bytes
pub ahead_covers : (held : Held) (at q n size : ℕ) → at ≤ q → n ≤ 256 → q + n ≤ size → Covers held at (min (size - at) 4096) → (Covers held q n → ⊥) → at + 3840 ≤ q
ahead_covers Nothing at q n size above short within covers none = absurd covers
ahead_covers (Piece bytes) at q n size above short within covers none = absurd covers
ahead_covers (Window from bytes) at q n size above short within covers none =
    ⊎_elim (λ near. absurd (none (omega (arith, covers.0, above), omega (arith, covers.1, above, near, short, within)))) (λ far. far) (cases_lt q (at + 3840))
