use Rattle.std.proofs.Common.{Ok, take}
use Rattle.check_report.specs.Effects.{Adds}
use Rattle.check_report.specs.FindingRows.{region_rows}
use Rattle.check_report.proofs.region.add_region.Given as goal

abbrev pub invariant-loop-finding : goal.invariant-loop-finding
invariant-loop-finding g l = Adds g.W.Sink (Ok tt) l.initial.rows l.rows
    (region_rows l.asked l.rules l.region (take l.finding-index l.findings))
