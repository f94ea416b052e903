use Rattle.std.proofs.Common.{Ok, take}
use Rattle.check_report.specs.Effects.{Adds}
use Rattle.check_report.specs.FindingRows.{need_rows}
use Rattle.check_report.proofs.findings.add_needs.Given as goal

abbrev pub invariant-loop-need : goal.invariant-loop-need
invariant-loop-need g l = Adds g.W.Sink (Ok tt) l.initial.rows l.rows
    (need_rows l.findings (take l.need-index l.needs))
