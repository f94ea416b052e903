use Rattle.std.proofs.Common.{◌∙◌, sym}
use Rattle.cbfs_edit.proofs.Searches.{no_place_left}
use Rattle.cbfs_edit.proofs.place.answer_of.Goals as goal

pub returns-in-None-clause-is : goal.returns-in-None-clause-is
returns-in-None-clause-is c = λ name. no_place_left name c.args.wanted c.args.region.size c.args.survey _ c.if-survey.false (sym c.in-None.is ∙ c.place_so_far.ensures.is)

pub returns-in-Some-clause-is : goal.returns-in-Some-clause-is
returns-in-Some-clause-is c = λ name. no_place_left name c.args.wanted c.args.region.size c.args.survey _ c.if-survey.false (sym c.in-Some.is ∙ c.place_so_far.ensures.is)
