use Rattle.check_report.proofs.rows.writer.RowWriter.more.Goals as goal

pub returns-clause-lines : goal.returns-clause-lines
returns-clause-lines g c = rw (c.limited-kinds.ensures, c.deref.ensures.value) at c.more.ensures
