use Rattle.std.proofs.Common.{refl}
use Rattle.check_report.proofs.SoundRows.{adds_failed, adds_none, adds_row}
use Rattle.check_report.proofs.rows.writer.RowWriter.add.Goals as goal

pub returns : goal.returns
returns g c = adds_row g.W.Sink _ c.args.self.now _ _ _ refl c.in_ok-before.ensures c.in_ok-self.ensures (rw c.shows-is_shown.ensures at c.row_if.ensures)

pub returns-in_err-before : goal.returns-in_err-before
returns-in_err-before g c = adds_failed c.from_residual.ensures.1 (adds_none refl refl)

pub returns-in_err-self : goal.returns-in_err-self
returns-in_err-self g c = adds_failed c.from_residual-in_err-self.ensures.1 (adds_none refl refl)
