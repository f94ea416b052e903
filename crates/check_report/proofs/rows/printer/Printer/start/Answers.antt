use Rattle.std.proofs.Common.{◌∙◌, [], false, refl}
use Rattle.check_report.specs.Reports.{file_fields, part, start_tokens}
use Rattle.check_report.proofs.PrinterEffects.{prints_from, prints_nothing}
use Rattle.check_report.proofs.rows.printer.Printer.start.Goals as goal

pub returns-in_err-json_start-in-Json : goal.returns-in_err-json_start-in-Json
returns-in_err-json_start-in-Json g c = prints_nothing g.W.Sink _ _ _ _ _ c.from_residual.ensures.1 refl

pub returns-in_ok-json_start-in-Json : goal.returns-in_ok-json_start-in-Json
returns-in_ok-json_start-in-Json g c = prints_from g.W.Sink c.put.result c.args.self.now (record c.args.self.now { follows = false }) c.put.new.self false c.deref.result.now
    (part c.args.self.now.form false [] (start_tokens (file_fields c.args.files) c.args.array.now)) refl refl (rw c.in-Json.is (c.deref.ensures.value ∙ c.in_ok-json_start-in-Json.ensures)) c.put.ensures.prints
