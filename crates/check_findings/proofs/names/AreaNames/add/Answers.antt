use Rattle.std.proofs.Common.{◌∙◌, Option, ap, sym}
use Rattle.std.specs.Prelude.{is_some}
use Rattle.check_findings.specs.declared.areas.NumberedArea.{NumberedArea}
use Rattle.check_findings.proofs.FirstAreas.{notes-known, notes-new}
use Rattle.check_findings.proofs.names.AreaNames.add.Goals as goal

pub returns-in_ok-insert : goal.returns-in_ok-insert
returns-in_ok-insert c = λ before.
    notes-new c.args.self.now (record { first = c.insert.new.self }) before c.args.area.now c.text-name.result.now c.text-name.ensures.value (ap (λ (o : Option NumberedArea). is_some o) (sym c.get.ensures) ∙ c.if-is_none.ensures) c.in_ok-insert.ensures.updates

pub returns-else-is_none : goal.returns-else-is_none
returns-else-is_none c = λ before. notes-known c.args.self.now before c.args.area.now c.text-name.result.now c.text-name.ensures.value (ap (λ (o : Option NumberedArea). is_some o) (sym c.get.ensures) ∙ c.if-is_none.ensures)
