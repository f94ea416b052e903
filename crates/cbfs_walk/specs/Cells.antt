-- Cells of a region.
use Rattle.std.specs.Prelude.{◌≡◌, ℕ, ◌+◌, ◌-◌, ◌%◌, ◌≤◌, false, List, slice_range, Ok}
use Rattle.flash_format.specs.Head.{extent_of, is_free}
use Rattle.flash_format.specs.Entry.{name_end}
use Rattle.flash_device.specs.Device.{Device}
use Rattle.flash_device.specs.Regions.{Range, LiesOn}
use Rattle.cbfs_walk.specs.declared.cell.Cell.{Cell}

-- valid head and length in a region of the given size
abbrev pub PassesChecks : ℕ → Cell → Type 0
PassesChecks size c =
    extent_of c.head (size - c.at) ≡ Ok (record { content = c.head.offset; span = c.span })

pub record IsComponentIn (size : ℕ) (c : Cell) : Type 0 where
  pub checks : PassesChecks size c
  pub used : is_free c.head ≡ false

-- the cell and its content lie in the region
pub record IsCellIn (size : ℕ) (c : Cell) : Type 0 where
  pub aligned : c.at % 64 ≡ 0
  pub positive : 64 ≤ c.span
  pub whole : c.span % 64 ≡ 0
  pub inside : c.at + c.span ≤ size
  pub content : c.head.offset + c.head.len ≤ c.span
  pub checks : PassesChecks size c

-- a cell with a property by the size of its region, which lies on the device
pub record IsCellOn (Is : ℕ → Cell → Type 0) (r : Range) (c : Cell) (device : Device) : Type 0 where
  pub region : LiesOn r device
  pub cell : Is r.size c

-- the offset of the attributes, relative to the beginning of the region
abbrev pub attributes_start : Cell → ℕ
attributes_start c = c.at + name_end c.head

abbrev pub content_start : Cell → ℕ
content_start c = c.at + c.head.offset

abbrev pub content_end : Cell → ℕ
content_end c = c.at + (c.head.offset + c.head.len)

abbrev pub cell_in : List ℕ → Cell → List ℕ
cell_in x c = slice_range x c.at (c.at + c.span)
