use Rattle.std.proofs.Common.{◌∙◌, ◌∷◌, [], ap, ap₂}
use Rattle.check_report.specs.Fields.{Line, seen_line}
use Rattle.check_report.specs.Reports.{parts}
use Rattle.check_report.proofs.PrinterEffects.{line_printed, lines_nothing}
use Rattle.check_report.proofs.rows.printer.Printer.line.Goals as goal

pub returns : goal.returns
returns g c =
    let rest = c.measure_line.ensures.rest in
    let line : Line = seen_line c.args.head.now c.args.fields.now in
    line_printed g.W.Sink c.put.result c.args.self.now _ c.put.new.self line c.deref.result.now (ap (λ p. p.out) rest) (ap (λ p. p.form) rest) c.in_ok-measure_line.ensures.widths
    (c.deref.ensures.value ∙ c.in_ok-part.ensures ∙ ap₂ (λ f b. parts f b (line ∷ [])) (ap (λ p. p.form) rest) (ap (λ p. p.follows) rest)) (ap (λ p. p.widths) c.put.ensures.rest) c.put.ensures.prints

pub returns-in_err-measure_line : goal.returns-in_err-measure_line
returns-in_err-measure_line g c = lines_nothing g.W.Sink _ _ _ _ c.from_residual.ensures.1 (ap (λ p. p.out) c.measure_line.ensures.rest)

pub returns-in_err-part : goal.returns-in_err-part
returns-in_err-part g c = lines_nothing g.W.Sink _ _ _ _ c.from_residual-in_err-part.ensures.1 (ap (λ p. p.out) c.measure_line.ensures.rest)
