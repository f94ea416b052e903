use Rattle.std.proofs.Common.{Ok, take}
use Rattle.std.specs.List.{flat_map}
use Rattle.check_report.specs.Reports.{component_lines}
use Rattle.check_report.specs.Effects.{PrintsLines}
use Rattle.check_report.proofs.component_list.list_area.Given as goal

abbrev pub invariant-loop-finding : goal.invariant-loop-finding
invariant-loop-finding g l = PrintsLines g.W.Sink (Ok tt) l.initial.printer l.printer
    (flat_map (component_lines l.area) (take l.finding-index l.findings))
