-- Two images on two devices, and the faults of a comparison.
use Rattle.std.specs.Prelude.{ℕ, ◌+◌, ◌≤◌, List, Result, length}
use Rattle.flash_device.specs.Device.{fault_count}
use Rattle.flash_device.specs.Pages.{HasRead, OnHonest}
use Rattle.flash_device.specs.Regions.{Range, LiesOn, bytes_in}
use Rattle.check_findings.specs.declared.fault.CheckFault.{CheckFault}
use Rattle.check_findings.specs.declared.fault.CheckFault.TheVariants as check
use Rattle.check_changes.specs.declared.fault.ChangeFault.{ChangeFault}
use Rattle.check_changes.specs.declared.fault.ChangeFault.TheVariants as faults
use Rattle.check_changes.specs.declared.images.Images.{Images}
use Rattle.check_changes.specs.declared.images.Both.{Both}

-- ---- faults

-- the number of refused calls of the old device in a fault
abbrev pub by_old : ChangeFault → ℕ
by_old faults.OldDevice = 1
by_old _ = 0

-- of the new device
abbrev pub by_new : ChangeFault → ℕ
by_new faults.NewDevice = 1
by_new _ = 0

-- the fault of a check of an image on this device
abbrev pub of_check : ChangeFault → CheckFault → ChangeFault
of_check device check.Device = device
of_check device check.Memory = faults.Memory

-- ---- lengths and regions

abbrev pub lengths_of : List ℕ → List ℕ → Both ℕ
lengths_of x y = record { old = length x; new = length y }

abbrev pub LieWithin : Both ℕ → Both Range → Type 0
LieWithin lens r = (r.old.start + r.old.size ≤ lens.old) × (r.new.start + r.new.size ≤ lens.new)

-- ---- images on devices

module _ {F G : Type 0} where
  abbrev pub lengths : Images F G → Both ℕ
  lengths i = lengths_of i.old_image.device.content i.new_image.device.content

  -- regions on the devices of the images
  abbrev pub LieOn : Images F G → Both Range → Type 0
  LieOn i r = LiesOn r.old i.old_image.device × LiesOn r.new i.new_image.device

  -- P of both images, if both devices are honest
  abbrev pub OnBoth : Images F G → (List ℕ → List ℕ → Type 0) → Type 0
  OnBoth i P = OnHonest i.old_image.device (λ x. OnHonest i.new_image.device (P x))

  -- P of a region of each image
  abbrev pub OnBothIn : Images F G → Both Range → (List ℕ → List ℕ → Type 0) → Type 0
  OnBothIn i r P = OnBoth i (λ x y. P (bytes_in r.old x) (bytes_in r.new y))

  -- images j after at most m and n reads of images i; the result names the device that refused a
  -- read
  abbrev pub HasReadFor : {T : Type 0} (m n : ℕ) (i j : Images F G) → Result T ChangeFault → Type 0
  HasReadFor m n i j r = HasRead m (fault_count by_old r) i.old_image j.old_image
      × HasRead n (fault_count by_new r) i.new_image j.new_image

  -- the same with a common bound
  abbrev pub HasCompared : {T : Type 0} (n : ℕ) (i j : Images F G) → Result T ChangeFault → Type 0
  HasCompared n i j r = HasReadFor n n i j r
