use Rattle.std.proofs.Common.{take}
use Rattle.std.specs.List.{flat_map}
use Rattle.check_report.specs.Reports.{listed_of}
use Rattle.check_report.proofs.HashedLines.{Hashed}
use Rattle.check_report.proofs.component_list.list_hashed.Given as goal

abbrev pub invariant-loop-finding : goal.invariant-loop-finding
invariant-loop-finding g l = Hashed g.W.Sink l.initial.printer l.printer l.digests l.left
    (flat_map listed_of (take l.finding-index l.findings))
