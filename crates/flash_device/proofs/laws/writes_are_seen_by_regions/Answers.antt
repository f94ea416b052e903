use Rattle.std.proofs.Common.{refl}
use Rattle.flash_device.proofs.RegionLemmas.{written_in, written_beside, changed_in, image_is}
use Rattle.flash_device.proofs.laws.writes_are_seen_by_regions.Goals as goal

pub returns : goal.returns
returns c = record { inside = written_in; beside = written_beside; changed = changed_in; whole = λ r x y lies size same. image_is r x y _ lies size same refl }
