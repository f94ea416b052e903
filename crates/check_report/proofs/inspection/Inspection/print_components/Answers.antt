use Rattle.check_report.proofs.TableEffects.{puts_none}
use Rattle.check_report.proofs.inspection.Inspection.print_components.Goals as goal

pub returns-then-request : goal.returns-then-request
returns-then-request g c = rw c.if-request.true c.print_all_components.ensures

pub returns-else-request : goal.returns-else-request
returns-else-request g c = rw c.if-request.false (puts_none g.W.Sink c.args.printer.now.out)
