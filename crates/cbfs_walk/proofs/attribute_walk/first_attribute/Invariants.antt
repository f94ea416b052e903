use Rattle.std.proofs.Common.{◌-◌}
use Rattle.cbfs_walk.proofs.AttributeScans.{Scanning, AsksRest, data_with}
use Rattle.cbfs_walk.proofs.attribute_walk.first_attribute.Given as goal

abbrev pub invariant-loop-head : goal.invariant-loop-head
invariant-loop-head g l = Scanning l.region l.initial.at l.end l.at l.initial.paged l.paged
    (AsksRest (data_with l.tag) l.region l.initial.paged.device.content l.initial.at l.end l.at)

abbrev pub decreases-loop-head : goal.decreases-loop-head
decreases-loop-head g l = l.end - l.at
