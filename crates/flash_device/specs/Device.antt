-- Devices and sources, and the effects of calls.
use Rattle.std.specs.Prelude.{◌≡◌, ℕ, ◌+◌, ◌*◌, ◌<◌, ◌≤◌, List, ◌++◌, length, take, drop, ◌⊎◌, Bool, slice_range, IsTrue, OnOk, Result, Ok, Err, Option}
use Rattle.std.specs.Io.KnownBytes.{Appends}
use Rattle.flash_device.specs.declared.counter.Number.{Number, Zero, More'}

abbrev pub overwritten : List ℕ → ℕ → List ℕ → List ℕ
overwritten old at bytes = take at old ++ (bytes ++ drop (at + length bytes) old)

-- equal outside n bytes from `at` on
pub record SameOutside (at n : ℕ) (old new : List ℕ) : Type 0 where
  pub before : take at new ≡ take at old
  pub after : drop (at + n) new ≡ drop (at + n) old

-- a proper prefix is written at `at`
abbrev pub FirstWritten : ℕ → List ℕ → List ℕ → List ℕ → Type 0
FirstWritten at bytes old new =
    (done : ℕ) × (done < length bytes) × (new ≡ overwritten old at (take done bytes))

-- a prefix is written at `at`, then at most 4096 bytes are arbitrary
pub record PartWritten (at : ℕ) (bytes old new : List ℕ) : Type 0 where
  pub done : ℕ
  pub torn : ℕ
  pub short : torn ≤ 4096
  pub within : done + torn ≤ length bytes
  pub same : SameOutside (at + done) torn (overwritten old at (take done bytes)) new

-- A device or source. Calls exclude `len`. If honest, reads return the content, and each write is
-- performed.
pub record Device : Type 0 where
  pub content : List ℕ
  pub calls : ℕ
  pub faults : ℕ
  pub honest : Bool

-- the maximum number of device calls of a command
abbrev pub call_limit : Device → ℕ
call_limit device = 2 * length device.content + 64

-- the range of one call: inside the device, at most 4096 bytes
pub record IsPiece (at n : ℕ) (device : Device) : Type 0 where
  pub inside : at + n ≤ length device.content
  pub short : n ≤ 4096

-- the faults in a result, by error
abbrev pub fault_count : {T E : Type 0} → (E → ℕ) → Result T E → ℕ
fault_count told (Ok value) = 0
fault_count told (Err fault) = told fault

abbrev pub refusals : {T E : Type 0} → Result T E → ℕ
refusals = fault_count (λ fault. 1)

-- at most n calls of any device
pub record Calls (n refused : ℕ) (old new : Device) : Type 0 where
  pub no_fewer : old.calls ≤ new.calls
  pub no_more : new.calls ≤ old.calls + n
  pub faults : new.faults ≡ old.faults + refused
  pub same_honesty : new.honest ≡ old.honest
  pub same_length : length new.content ≡ length old.content

pub record OneCall (refused : ℕ) (old new : Device) : Type 0 where
  pub counted : new.calls ≡ old.calls + 1
  pub within : Calls 1 refused old new

-- A read; `read` and `unchanged` are for honest devices.
pub record OneRead {T E : Type 0} (at n : ℕ) (old new : Device) (result : Result T E)
    (out : List ℕ) : Type 0 where
  pub call : OneCall (refusals result) old new
  pub read : IsTrue old.honest → OnOk result (out ≡ slice_range old.content at (at + n))
  pub unchanged : IsTrue old.honest → new.content ≡ old.content

-- A write; `written` and `torn` are for honest devices, `torn` for any result.
pub record OneWrite {T E : Type 0} (at : ℕ) (bytes : List ℕ) (old new : Device)
    (result : Result T E) : Type 0 where
  pub call : OneCall (refusals result) old new
  pub written : IsTrue old.honest → OnOk result (new.content ≡ overwritten old.content at bytes)
  pub torn : IsTrue old.honest → SameOutside at (length bytes) old.content new.content

pub record OneCommit {T E : Type 0} (at : ℕ) (bytes : List ℕ) (old new : Device)
    (result : Result T E) : Type 0 where
  pub call : OneCall (refusals result) old new
  pub written : IsTrue old.honest → OnOk result (new.content ≡ overwritten old.content at bytes)
  pub whole : IsTrue old.honest
      → (new.content ≡ old.content) ⊎ (new.content ≡ overwritten old.content at bytes)

-- at most n reads, with any results
pub record Reads (n refused : ℕ) (old new : Device) : Type 0 where
  pub calls : Calls n refused old new
  pub unchanged : IsTrue old.honest → new.content ≡ old.content

-- a proper prefix is appended
abbrev pub AppendsPart : Option (List ℕ) → Option (List ℕ) → List ℕ → Type 0
AppendsPart old new bs = (n : ℕ) × (n < length bs) × Appends old new (take n bs)

-- the value of a counter of size 0
abbrev pub count_of : Number → ℕ
count_of Zero = 0
count_of (More' n shape before) = count_of before + n
