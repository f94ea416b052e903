use Rattle.std.proofs.Common.{Ok, map, take}
use Rattle.std.specs.List.{flat_map}
use Rattle.check_report.specs.Rows.{more_of, row_line, seen_kind, selected}
use Rattle.check_report.specs.Effects.{PrintsLines}
use Rattle.check_report.proofs.rows.printer.Printer.more.Given as goal

abbrev pub invariant-loop-kind : goal.invariant-loop-kind
invariant-loop-kind g l = PrintsLines g.W.Sink (Ok tt) l.initial.self l.self
    (flat_map (λ k. map row_line (selected l.selection.only (more_of (seen_kind k)))) (take l.kind-index l.kinds))
