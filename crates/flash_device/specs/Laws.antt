-- Laws of writes.
use Rattle.std.specs.Prelude.{◌≡◌, ◌⊎◌, ℕ, ◌+◌, ◌≤◌, List, length}
use Rattle.flash_device.specs.Device.{overwritten, SameOutside}
use Rattle.flash_device.specs.Regions.{Range, LiesIn, bytes_in}

pub record WritesInRegions : Type 0 where
  -- a write inside the region overwrites its bytes
  pub inside : (r : Range) (x : List ℕ) (at : ℕ) (u : List ℕ) → LiesIn r x → at + length u ≤ r.size
      → bytes_in r (overwritten x (r.start + at) u) ≡ overwritten (bytes_in r x) at u
  -- a write beside the region has no effect
  pub beside : (r : Range) (x : List ℕ) (at : ℕ) (u : List ℕ) → at ≤ length x → (at + length u
      ≤ r.start) ⊎ (r.start + r.size ≤ at) → bytes_in r (overwritten x at u) ≡ bytes_in r x
  -- a change in the range changes the region's bytes
  pub changed : (r : Range) (x y : List ℕ) (at n : ℕ) → at + n ≤ r.size
      → SameOutside (r.start + at) n x y → SameOutside at n (bytes_in r x) (bytes_in r y)
  -- an image changed only inside is overwritten with the region
  pub whole : (r : Range) (x y : List ℕ) → LiesIn r x → length y ≡ length x
      → SameOutside r.start r.size x y → y ≡ overwritten x r.start (bytes_in r y)

abbrev pub with_edit : Range → (List ℕ → List ℕ) → List ℕ → List ℕ
with_edit r make image = overwritten image r.start (make (bytes_in r image))

abbrev pub LieApart : Range → Range → Type 0
LieApart r s = (r.start + r.size ≤ s.start) ⊎ (s.start + s.size ≤ r.start)
