use Rattle.std.proofs.Common.{refl}
use Rattle.check_laws.proofs.needs.a_content_ends_with_its_area.Goals as goal

pub returns-clause-at_the_end : goal.returns-clause-at_the_end
returns-clause-at_the_end c = λ need area name place. rw (area, name, place) refl

pub returns-clause-one_before : goal.returns-clause-one_before
returns-clause-one_before c = λ need area name place. rw (area, name, place) refl

pub returns-clause-four_before : goal.returns-clause-four_before
returns-clause-four_before c = λ need area name place. rw (area, name, place) refl

pub returns-clause-one_less : goal.returns-clause-one_less
returns-clause-one_less c = λ need area name place. rw (area, name, place) refl

pub returns-clause-four_less : goal.returns-clause-four_less
returns-clause-four_less c = λ need area name place. rw (area, name, place) refl
