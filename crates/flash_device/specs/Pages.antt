-- Buffered devices, and the effects of their calls.
use Rattle.std.specs.Prelude.{◌≡◌, ◌+◌, ◌-◌, ◌≤◌, ℕ, List, length, take, min, Result, IsTrue, IsOk, OnOk, OnErr, IfOk, slice_range, ◌/◌, ◌<◌, Option, replicate, IsErrOf, IfSome}
use Rattle.std.specs.Global.{Vec}
use Rattle.std.specs.Borrow.{Bor}
use Rattle.flash_device.specs.Device.{SameOutside, Device, Calls, Reads, refusals, overwritten, FirstWritten, PartWritten, fault_count}
use Rattle.flash_device.specs.Regions.{Range, bytes_in}
use Rattle.flash_device.specs.declared.paged.Buffered.{Buffered}
use Rattle.flash_device.specs.declared.paged.Buffered.TheVariants as code
use Rattle.std.specs.Io.KnownBytes.{Appends}
use Rattle.flash_device.specs.Device.{AppendsPart}
use Rattle.flash_device.specs.declared.paged.CopyFault.{CopyFault}
use Rattle.flash_device.specs.declared.paged.CopyFault.TheVariants as causes
use Rattle.flash_device.specs.declared.paged.CopyInFault.{CopyInFault}
use Rattle.flash_device.specs.declared.paged.CopyInFault.TheVariants as inputs
use Rattle.std.specs.Result.{result_map_both}
pub use Rattle.flash_device.specs.declared.sink.Sink.{Ghosts as SinkOf}

-- a success returns the value
abbrev pub Returns : {T E : Type 0} → Result T E → T → Type 0
Returns result value = IfOk result (λ returned. returned ≡ value)

-- a success returns a vector of these items
abbrev pub Lists : {T E : Type 0} → Result (Vec T) E → List T → Type 0
Lists result items = IfOk result (λ returned. returned.items ≡ items)

-- a success with a value has the property P
abbrev pub IfFound : {T E : Type 0} → Result (Option T) E → (T → Type 0) → Type 0
IfFound result P = IfOk result (λ found. IfSome found P)

-- P holds for an honest device's content
abbrev pub OnHonest : Device → (List ℕ → Type 0) → Type 0
OnHonest device P = IsTrue device.honest → P device.content

-- P holds for a region on an honest device
abbrev pub OnHonestIn : Device → Range → (List ℕ → Type 0) → Type 0
OnHonestIn device region P = IsTrue device.honest → P (bytes_in region device.content)

-- empty, device bytes from an offset on, or the last pulled piece
pub data Held : Type 0 where
  Nothing : Held
  Window : ℕ → List ℕ → Held
  Piece : List ℕ → Held

-- a buffered device: the device itself, its facts, and the buffer
pub record Pages (F : Type 0) : Type 0 where
  pub flash : F
  pub device : Device
  pub held : Held

-- on an honest device, a success returns a function of the region's bytes
abbrev pub ReadsAs : {F T E : Type 0} → Pages F → Range → Result T E → (List ℕ → T) → Type 0
ReadsAs old region result value = OnHonestIn old.device region (λ x. Returns result (value x))

abbrev pub held_in : List ℕ → Buffered → Held
held_in buffer code.Nothing = Nothing
held_in buffer (code.Window at size) = Window at (take size buffer)
held_in buffer (code.Piece size) = Piece (take size buffer)

-- a window lies inside the device, and equals an honest device's bytes
abbrev pub IsTrueTo : Device → Held → Type 0
IsTrueTo device (Window at bytes) = (at + length bytes ≤ length device.content)
    × (IsTrue device.honest → bytes ≡ slice_range device.content at (at + length bytes))
IsTrueTo device _ = Unit {0}

abbrev pub FitsBuffer : Buffered → Type 0
FitsBuffer code.Nothing = Unit {0}
FitsBuffer (code.Window at size) = size ≤ 4096
FitsBuffer (code.Piece size) = size ≤ 4096

abbrev pub Covers : Held → ℕ → ℕ → Type 0
Covers (Window from bytes) at n = (from ≤ at) × (at + n ≤ from + length bytes)
Covers _ at n = ⊥

-- at most n reads, with the given faults
pub record HasRead {F : Type 0} (n refused : ℕ) (old new : Pages F) : Type 0 where
  pub device : Reads n refused old.device new.device
  pub window : IsTrueTo old.device old.held → IsTrueTo new.device new.held

-- at most n reads, with the faults in a result
abbrev pub HasReadBy : {F T E : Type 0} → (E → ℕ) → ℕ → Pages F → Pages F → Result T E → Type 0
HasReadBy told n old new result = HasRead n (fault_count told result) old new

-- at most n reads, failed exactly if a read fails
pub record HasAnswered {F T E : Type 0} (n : ℕ) (old new : Pages F)
    (result : Result T E) : Type 0 where
  pub read : HasRead n (refusals result) old new

-- a read of n bytes: no call inside the window; otherwise a window from `at` on, or an empty buffer
-- after a fault
pub record HasSeen {F T E : Type 0} (at n : ℕ) (old new : Pages F)
    (result : Result T E) : Type 0 where
  pub read : HasRead 1 (refusals result) old new
  pub dropped : OnErr result (new.held ≡ Nothing)
  pub free : Covers old.held at n → (new ≡ old) × IsOk result
  pub held : OnOk result (Covers new.held at n)
  pub ahead : (Covers old.held at n → ⊥)
      → OnOk result (Covers new.held at (min (length old.device.content - at) 4096))

-- writes to a region, at most n calls: an honest device is unchanged outside
pub record HasChanged {F : Type 0} (region : Range) (n refused : ℕ)
    (old new : Pages F) : Type 0 where
  pub calls : Calls n refused old.device new.device
  pub outside : IsTrue old.device.honest
      → SameOutside region.start region.size old.device.content new.device.content

pub record HasPulled {F E : Type 0} (old new : Pages F)
    (result : Result (Bor (List ℕ)) E) : Type 0 where
  pub kept : new ≡ record old { held = new.held }
  pub held : IfOk result (λ bytes. new.held ≡ Piece bytes.now)
  pub dropped : OnErr result (new.held ≡ Nothing)

-- the result of a copy from a source, as a copy's result
abbrev pub copy_fault : CopyInFault → CopyFault
copy_fault inputs.Device = causes.Device
copy_fault inputs.Source = causes.Source

abbrev pub as_copy : {T : Type 0} → Result T CopyInFault → Result T CopyFault
as_copy result = result_map_both (λ value. value) copy_fault result

-- device faults, or source faults, in a copy's fault
abbrev pub by_device : CopyFault → ℕ
by_device causes.Device = 1
by_device _ = 0

abbrev pub by_source : CopyFault → ℕ
by_source causes.Source = 1
by_source _ = 0

-- a fill of n bytes; all clauses except `calls` are for honest devices
pub record HasFilled {T E : Type 0} (at n byte : ℕ) (old new : Device)
    (result : Result T E) : Type 0 where
  pub calls : Calls ((n + 4095) / 4096) (refusals result) old new
  pub filled : IsTrue old.honest
      → OnOk result (new.content ≡ overwritten old.content at (replicate n byte))
  pub part : IsTrue old.honest
      → OnErr result (PartWritten at (replicate n byte) old.content new.content)

-- A copy of a source's first n bytes. `copied`, `stopped` and `part` are for an honest device and
-- source, `outside` for an honest device.
pub record HasCopiedIn {T : Type 0} (at n : ℕ) (old new source source_now : Device)
    (result : Result T CopyFault) : Type 0 where
  pub calls : Calls ((n + 4095) / 4096) (fault_count by_device result) old new
  pub source_calls : Calls ((n + 4095) / 4096) (fault_count by_source result) source source_now
  pub no_output : IsErrOf result causes.Output → ⊥
  pub same_source : IsTrue source.honest → source_now.content ≡ source.content
  pub copied : IsTrue old.honest → IsTrue source.honest
      → OnOk result (new.content ≡ overwritten old.content at (take n source.content))
  pub stopped : IsTrue old.honest → IsTrue source.honest → IsErrOf result causes.Source
      → FirstWritten at (take n source.content) old.content new.content
  pub part : IsTrue old.honest → IsTrue source.honest → IsErrOf result causes.Device
      → PartWritten at (take n source.content) old.content new.content
  pub outside : IsTrue old.honest → SameOutside at n old.content new.content

-- A copy of n bytes into a sink. `copied` and `part` are for honest devices.
pub record HasCopiedOut {F W T : Type 0} (sink : SinkOf W) (most at n : ℕ) (old new : Pages F)
    (out out_now : W) (result : Result T CopyFault) : Type 0 where
  pub read : HasRead most (fault_count by_device result) old new
  pub free : Covers old.held at n → new ≡ old
  pub no_piece : (bytes : List ℕ) → new.held ≡ Piece bytes → ⊥
  pub dropped : IsErrOf result causes.Device → new.held ≡ Nothing
  pub faults : sink.faults out ≤ sink.faults out_now
  pub output : IsErrOf result causes.Output → sink.faults out < sink.faults out_now
  pub no_source : IsErrOf result causes.Source → ⊥
  pub copied : OnHonest old.device (λ image. OnOk result
      (Appends (sink.contents out) (sink.contents out_now) (slice_range image at (at + n))))
  pub part : OnHonest old.device (λ image. OnErr result
      (AppendsPart (sink.contents out) (sink.contents out_now) (slice_range image at (at + n))))
