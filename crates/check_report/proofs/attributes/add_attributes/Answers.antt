use Rattle.check_report.proofs.attributes.add_attributes.Goals as goal

pub returns-in-Some : goal.returns-in-Some
returns-in-Some g c = rw (c.in-Some.is, ← c.fault_row.ensures) c.add.ensures
