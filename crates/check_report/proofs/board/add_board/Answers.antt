use Rattle.std.proofs.Common.{refl}
use Rattle.check_report.specs.BoardRows.{board_row}
use Rattle.check_report.proofs.SoundRows.{adds_failed, adds_stopped_map}
use Rattle.check_report.proofs.board.add_board.Goals as goal

pub returns-in_err-add : goal.returns-in_err-add
returns-in_err-add g c = adds_failed c.from_residual.ensures.1 (adds_stopped_map board_row c.args.findings.now c.loop-finding.finding-index
    _ _ c.loop-finding-test.true refl c.loop-finding.invariant (rw c.board_row.ensures at c.in_err-add.ensures))
