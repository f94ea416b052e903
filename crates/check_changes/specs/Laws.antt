-- A law about changes of areas.
use Rattle.std.specs.Prelude.{◌≡◌, ◌≢◌, ℕ, ◌+◌, ◌<◌, ◌≤◌, Bool, true, false, ◌&&◌, List, length, slice_index, nat_lt, nat_le}
use Rattle.check_findings.specs.declared.areas.NumberedArea.{NumberedArea}
use Rattle.check_findings.specs.Areas.{area_end}
use Rattle.check_changes.specs.declared.areas.change.AreaChange.{AreaChange}
use Rattle.check_changes.specs.declared.areas.change.AreaDifference.{AreaDifference}
use Rattle.check_changes.specs.declared.areas.change.AreaDifference.TheVariants.{Differs, NotCompared}

-- different outside smaller areas, or not compared
abbrev pub is_unequal : AreaDifference → Bool
is_unequal (Differs blocks own) = nat_lt 0 own
is_unequal NotCompared = true
is_unequal _ = false

-- the change reports an area with the byte at this offset as different or not compared
abbrev pub reports : ℕ → AreaChange → Bool
reports at c = nat_le c.area.area.offset at && nat_lt at (area_end c.area.area) && is_unequal c.what

-- Both areas have equal sizes, lie in their images and differ in byte i.
pub record DifferAt (x y : List ℕ) (old new : NumberedArea) (i : ℕ) : Type 0 where
  pub same_size : old.area.size ≡ new.area.size
  pub in_old : area_end old.area ≤ length x
  pub in_new : area_end new.area ≤ length y
  pub within : i < new.area.size
  pub differ : slice_index x (old.area.offset + i) ≢ slice_index y (new.area.offset + i)
