use Rattle.std.proofs.Common.{◌-◌}
use Rattle.cbfs_walk.proofs.AttributeScans.{Scanning, list_at}
use Rattle.check_findings.proofs.RegionLemmas.AttributeLists.{Asks}
use Rattle.check_findings.proofs.region.attributes.listed_fault.Given as goal

abbrev pub invariant-loop-head : goal.invariant-loop-head
invariant-loop-head g l = let image = l.initial.paged.device.content in
    Scanning l.region l.fn.from l.end l.at l.initial.paged l.paged
    (Asks l.kind l.earlier (list_at l.region image l.fn.from l.end) (list_at l.region image l.at l.end))

abbrev pub decreases-loop-head : goal.decreases-loop-head
decreases-loop-head g l = l.end - l.at
