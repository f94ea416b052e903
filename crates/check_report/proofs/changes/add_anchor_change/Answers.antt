use Rattle.check_report.proofs.changes.add_anchor_change.Goals as goal

pub returns-in-Some : goal.returns-in-Some
returns-in-Some g c = rw c.in-Some.is (rw c.anchor_change_row.ensures at c.add.ensures)
