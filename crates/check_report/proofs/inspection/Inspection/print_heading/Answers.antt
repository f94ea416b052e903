use Rattle.check_report.proofs.inspection.Inspection.print_heading.Goals as goal

pub returns-then-request : goal.returns-then-request
returns-then-request g c = rw c.if-request.true c.print_listed_heading.ensures

pub returns-else-request : goal.returns-else-request
returns-else-request g c = rw c.if-request.false c.start.ensures
