-- Ranges of an image.
use Rattle.std.specs.Prelude.{ℕ, ◌+◌, ◌^◌, ◌<◌, ◌≤◌, List, length, slice_range}
use Rattle.flash_device.specs.Device.{Device}

pub record Range : Type 0 where
  pub start : ℕ
  pub size : ℕ

abbrev pub bytes_in : Range → List ℕ → List ℕ
bytes_in region image = slice_range image region.start (region.start + region.size)

abbrev pub LiesIn : Range → List ℕ → Type 0
LiesIn region image = region.start + region.size ≤ length image

-- a region inside a device; offsets have 32 bits, so sums don't overflow
pub record LiesOn (r : Range) (device : Device) : Type 0 where
  pub inside : r.start + r.size ≤ length device.content
  pub below : length device.content < 2 ^ 32

-- a region on a device, of at least `end` bytes
pub record Reaches (r : Range) (end : ℕ) (device : Device) : Type 0 where
  pub region : LiesOn r device
  pub inside : end ≤ r.size
