use Rattle.std.proofs.Common.{Ok, take}
use Rattle.check_report.specs.Effects.{Adds}
use Rattle.check_report.specs.FindingRows.{finding_rows}
use Rattle.check_report.proofs.findings.add_findings.Given as goal

abbrev pub invariant-loop-finding : goal.invariant-loop-finding
invariant-loop-finding g l = Adds g.W.Sink (Ok tt) l.initial.rows l.rows
    (finding_rows l.asked l.names (take l.finding-index l.findings))
