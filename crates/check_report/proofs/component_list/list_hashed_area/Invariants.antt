use Rattle.std.proofs.Common.{take}
use Rattle.std.specs.List.{flat_map}
use Rattle.check_report.specs.Reports.{listed_in}
use Rattle.check_report.proofs.HashedLines.{Hashed}
use Rattle.check_report.proofs.component_list.list_hashed_area.Given as goal

abbrev pub invariant-loop-finding : goal.invariant-loop-finding
invariant-loop-finding g l = Hashed g.W.Sink l.initial.printer l.printer l.initial.digests.now l.digests.now
    (flat_map (listed_in l.area) (take l.finding-index l.findings))
