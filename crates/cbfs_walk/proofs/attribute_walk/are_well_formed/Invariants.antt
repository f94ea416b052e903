use Rattle.std.proofs.Common.{◌-◌}
use Rattle.cbfs_walk.proofs.AttributeScans.{Scanning, AsksRest, are_formed}
use Rattle.cbfs_walk.proofs.attribute_walk.are_well_formed.Given as goal

abbrev pub invariant-loop-head : goal.invariant-loop-head
invariant-loop-head g l = Scanning l.region l.fn.from l.end l.at l.initial.paged l.paged
    (AsksRest are_formed l.region l.initial.paged.device.content l.fn.from l.end l.at)

abbrev pub decreases-loop-head : goal.decreases-loop-head
decreases-loop-head g l = l.end - l.at
