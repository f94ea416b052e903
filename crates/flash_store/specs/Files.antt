-- Files, by single system calls.
use Rattle.std.specs.Prelude.{◌≡◌, ◌⊎◌, ℕ, ◌-◌, ◌≤◌, Bool, List, length, take, drop, replicate, Result, IsTrue, IfOk, slice_range}
use Rattle.std.specs.declared.io.ErrorKind.{ErrorKind}
use Rattle.std.specs.declared.io.ErrorKind.TheVariants.{OutOfMemory}
use Rattle.flash_store.specs.declared.open_fault.OpenFault.{OpenFault}
use Rattle.flash_store.specs.declared.open_fault.OpenFault.TheVariants.{Failed, Memory}
use Rattle.flash_format.specs.Made.{header_length}
use Rattle.flash_device.specs.Device.{overwritten, SameOutside, Device}

-- A file, and the range of the last complete write of at most a header's length.
pub record Stored : Type 0 where
  pub content : List ℕ
  pub faithful : Bool
  pub written_at : ℕ
  pub written_len : ℕ

-- The file has space for n bytes at the offset `at`, because the last complete write covered the
-- same range. Therefore no limit, full disk or hole refuses the next write of the range.
pub record IsReserved (at n : ℕ) (file : Stored) : Type 0 where
  pub place : file.written_at ≡ at
  pub count : file.written_len ≡ n

-- the file before and after any system call: the length and the field `faithful` are equal
pub record SameFile (old new : Stored) : Type 0 where
  pub same_faith : new.faithful ≡ old.faithful
  pub same_length : length new.content ≡ length old.content

-- the file before and after any read: a faithful file is unchanged
pub record SameBytes (old new : Stored) : Type 0 where
  pub same : SameFile old new
  pub unchanged : IsTrue old.faithful → new ≡ old

-- a read of n bytes from `at` on, with a count as result
pub record HasReadSome {E : Type 0} (at n : ℕ) (old new : Stored) (result : Result ℕ E)
    (out : List ℕ) : Type 0 where
  pub after : SameBytes old new
  pub short : IfOk result (λ k. k ≤ n)
  pub read : IsTrue old.faithful → IfOk result (λ k. take k out ≡ take k (drop at old.content))

-- A write, with a count as result. A faithful file is unchanged outside the range, and everywhere
-- if the bytes are present; a header's write is atomic in reserved space.
pub record HasWrittenSome {E : Type 0} (at : ℕ) (bytes : List ℕ) (old new : Stored)
    (result : Result ℕ E) : Type 0 where
  pub after : SameFile old new
  pub short : IfOk result (λ k. k ≤ length bytes)
  pub written : IsTrue old.faithful
      → IfOk result (λ k. new.content ≡ overwritten old.content at (take k bytes))
  pub torn : IsTrue old.faithful → SameOutside at (length bytes) old.content new.content
  pub same : IsTrue old.faithful → overwritten old.content at bytes ≡ old.content
      → new.content ≡ old.content
  pub whole : IsTrue old.faithful → length bytes ≤ header_length → IsReserved at (length bytes) old
      → (new.content ≡ old.content) ⊎ (new.content ≡ overwritten old.content at bytes)
  pub room : IsTrue old.faithful → length bytes ≤ header_length
      → IfOk result (λ k. k ≡ length bytes → IsReserved at (length bytes) new)

-- a device or a source over a file
abbrev pub stored_device : Stored → ℕ → ℕ → Device
stored_device file calls faults =
    record { content = file.content; calls = calls; faults = faults; honest = file.faithful }

-- an error of opening, by the system's error kind
abbrev pub open_fault_of : ErrorKind → OpenFault
open_fault_of OutOfMemory = Memory
open_fault_of kind = Failed kind

-- each byte of the range is 0xff
abbrev pub IsErased : ℕ → ℕ → List ℕ → Type 0
IsErased from to bytes = slice_range bytes from to ≡ replicate (to - from) 0xff
