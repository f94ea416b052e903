use Rattle.fmd_lang.proofs.SectionNames.{names-found}
use Rattle.fmd_lang.proofs.laws.names_are_those_of_the_sections.Goals as goal

pub returns : goal.returns
returns c = λ t is. names-found t c.args.text.now is
