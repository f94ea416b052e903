use Rattle.std.proofs.Common.{arith, rules}
use Rattle.check_report.specs.declared.fault.WriteFault.TheVariants as writes
use Rattle.check_report.proofs.Prefixes.{prefix_of_part}
use Rattle.check_report.proofs.PrinterEffects.{prints_failed}
use Rattle.check_report.proofs.rows.printer.Printer.put.Goals as goal

pub returns-clause-prints : goal.returns-clause-prints
returns-clause-prints g c = search rules

pub returns-in_err-put_all-clause-prints : goal.returns-in_err-put_all-clause-prints
returns-in_err-put_all-clause-prints g c = prints_failed g.W.Sink _ _ _ writes.Output _ _ c.from_residual.ensures.1
    (record { printed = tt; stopped = prefix_of_part _ _ _ c.in_err-put_all.ensures.part; cause = omega (arith, c.in_err-put_all.ensures.cause) })
