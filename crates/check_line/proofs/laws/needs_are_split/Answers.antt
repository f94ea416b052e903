use Rattle.std.proofs.Common.{refl}
use Rattle.std.specs.Path.{rsplit_once}
use Rattle.flash_format.specs.Numbers.{number_of}
use Rattle.check_line.proofs.laws.needs_are_split.Goals as goal

pub returns-clause-last_at : goal.returns-clause-last_at
unfolding rsplit_once number_of
returns-clause-last_at c = refl

pub returns-clause-first_colon : goal.returns-clause-first_colon
unfolding rsplit_once
returns-clause-first_colon c = refl

pub returns-clause-both : goal.returns-clause-both
unfolding rsplit_once number_of
returns-clause-both c = refl

pub returns-clause-end : goal.returns-clause-end
unfolding rsplit_once
returns-clause-end c = refl

pub returns-clause-no_place : goal.returns-clause-no_place
unfolding rsplit_once number_of
returns-clause-no_place c = refl
