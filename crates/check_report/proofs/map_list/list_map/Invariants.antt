use Rattle.std.proofs.Common.{Ok, map, take}
use Rattle.check_report.specs.Reports.{map_line}
use Rattle.check_report.specs.Effects.{PrintsLines}
use Rattle.check_report.proofs.map_list.list_map.Given as goal

abbrev pub invariant-loop-area : goal.invariant-loop-area
invariant-loop-area g l = PrintsLines g.W.Sink (Ok tt) l.initial.printer l.printer
    (map map_line (take l.area-index l.areas))
