use Rattle.std.proofs.Common.{◌∙◌, None, Some, refl, sym}
use Rattle.cbfs_commands.proofs.PlanSteps.{noted-is}
use Rattle.cbfs_commands.proofs.create.flashmap.noted.Goals as goal

pub returns-in-Some : goal.returns-in-Some
returns-in-Some c = λ seen kept. noted-is seen _ c.args.area.now (Some c.in-Some.first) _ (sym c.in-Some.is ∙ kept) refl

pub returns-in-None : goal.returns-in-None
returns-in-None c = λ seen kept. noted-is seen _ c.args.area.now None _ (sym c.in-None.is ∙ kept) (sym c.if-name_is.true ∙ c.name_is.ensures)

pub returns-in-None-2 : goal.returns-in-None-2
returns-in-None-2 c = λ seen kept. noted-is seen _ c.args.area.now None _ (sym c.in-None-2.is ∙ kept) (sym c.if-name_is.false ∙ c.name_is.ensures)
