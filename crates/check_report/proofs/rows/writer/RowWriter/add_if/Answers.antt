use Rattle.check_report.proofs.rows.writer.RowWriter.add_if.Goals as goal

pub returns-then-is_there : goal.returns-then-is_there
returns-then-is_there g c = rw c.if-is_there.true c.add.ensures
