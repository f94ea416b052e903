use Rattle.std.proofs.Common.{◌∙◌, refl}
use Rattle.check_report.specs.Reports.{closing}
use Rattle.check_report.proofs.PrinterEffects.{ends_nothing, prints_nothing}
use Rattle.check_report.proofs.ReportParts.{some_closing}
use Rattle.check_report.proofs.rows.printer.Printer.close.Goals as goal

pub returns-in_err-end-clause-prints : goal.returns-in_err-end-clause-prints
returns-in_err-end-clause-prints g c = prints_nothing g.W.Sink _ _ _ _ _ c.from_residual.ensures.1 refl

pub returns-in_err-end-clause-part : goal.returns-in_err-end-clause-part
returns-in_err-end-clause-part g c = ends_nothing g.W.Sink c.from_residual.result c.args.self.now c.args.self.now (closing c.args.colours c.args.request c.args.conclusion) (some_closing c.args.colours c.args.request c.args.conclusion) refl

pub returns-clause-prints : goal.returns-clause-prints
returns-clause-prints g c = rw (c.deref.ensures.value ∙ c.in_ok-end.ensures) at c.put.ensures.prints

pub returns-clause-part : goal.returns-clause-part
returns-clause-part g c = rw (c.deref.ensures.value ∙ c.in_ok-end.ensures) at c.put.ensures.part
