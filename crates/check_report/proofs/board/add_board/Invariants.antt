use Rattle.std.proofs.Common.{Ok, map, take}
use Rattle.check_report.specs.Effects.{Adds}
use Rattle.check_report.specs.BoardRows.{board_row}
use Rattle.check_report.proofs.board.add_board.Given as goal

abbrev pub invariant-loop-finding : goal.invariant-loop-finding
invariant-loop-finding g l = Adds g.W.Sink (Ok tt) l.initial.rows l.rows
    (map board_row (take l.finding-index l.findings))
