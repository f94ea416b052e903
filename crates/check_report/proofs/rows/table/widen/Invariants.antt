use Rattle.std.proofs.Common.{map}
use Rattle.check_report.proofs.TableLines.{Widening}
use Rattle.check_report.proofs.rows.table.widen.Given as goal

abbrev pub invariant-loop-i : goal.invariant-loop-i
invariant-loop-i l = Widening l.initial.widths (map (λ cell. cell.items) l.cells) l.i l.widths
