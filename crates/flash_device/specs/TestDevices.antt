-- Devices and sources with injected faults.
use Rattle.std.specs.Prelude.{◌≡◌, ℕ, ◌+◌, ◌-◌, ◌<◌, false, List, take, Result, IsTrue, IsErr}
use Rattle.flash_device.specs.declared.fail_at.FailAt.{FailAt}
use Rattle.flash_device.specs.Device.{overwritten, Device, refusals}

abbrev pub facts_over : {F : Type 0} → (F → Device) → FailAt F → Device
facts_over facts f =
    record (facts f.device) { calls = f.calls; faults = (facts f.device).faults + f.faults }

-- no effect
abbrev pub refused_once : {F : Type 0} → FailAt F → FailAt F
refused_once f = record f { calls = f.calls + 1; faults = f.faults + 1 }

-- A failed write. The first is torn, unless the other device fails, and is one fault, of either
-- device. Later writes have no effect.
pub record RefusedWrite {F : Type 0} (facts : F → Device) (at : ℕ) (bytes : List ℕ)
    (old new : FailAt F) : Type 0 where
  pub first : IsTrue old.tears → new ≡ record old
      { device = new.device; tears = false; calls = old.calls + 1; faults = new.faults }
  pub written : IsTrue old.tears → IsTrue (facts old.device).honest
      → (facts new.device).faults ≡ (facts old.device).faults
      → (facts new.device).content ≡ overwritten (facts old.device).content at (take old.part bytes)
  pub later : old.tears ≡ false → new ≡ refused_once old

-- A passed call has the other device's result; any other fails with the given effect.
pub record PassedOrRefused {F T E : Type 0} (facts : F → Device) (old new : FailAt F)
    (result : Result T E) (Refused : Type 0) : Type 0 where
  pub passed : 0 < old.left
      → (new ≡ record old { device = new.device; left = old.left - 1; calls = old.calls + 1 })
      × ((facts new.device).faults ≡ (facts old.device).faults + refusals result)
  pub refused : old.left ≡ 0 → IsErr result × Refused
