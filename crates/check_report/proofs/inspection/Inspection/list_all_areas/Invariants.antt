use Rattle.std.proofs.Common.{Ok, map, take}
use Rattle.check_report.specs.AreaLines.{area_line}
use Rattle.check_report.specs.Effects.{PrintsLines}
use Rattle.check_report.proofs.inspection.Inspection.list_all_areas.Given as goal

abbrev pub invariant-loop-area : goal.invariant-loop-area
invariant-loop-area g l = PrintsLines g.W.Sink (Ok tt) l.initial.printer l.printer
    (map (area_line l.self) (take l.area-index l.areas))
