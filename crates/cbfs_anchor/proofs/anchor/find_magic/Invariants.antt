use Rattle.std.proofs.Common.{◌-◌}
use Rattle.flash_device.specs.Regions.{bytes_in}
use Rattle.cbfs_walk.proofs.AttributeScans.{Scanning}
use Rattle.cbfs_anchor.proofs.Magics.{NoMagicBelow}
use Rattle.cbfs_anchor.proofs.anchor.find_magic.Given as goal

abbrev pub invariant-loop-at : goal.invariant-loop-at
invariant-loop-at g l = Scanning l.range l.initial.at l.end l.at l.fn.paged l.paged (NoMagicBelow (bytes_in l.range l.fn.paged.device.content) l.at)

abbrev pub decreases-loop-at : goal.decreases-loop-at
decreases-loop-at g l = l.end - l.at
