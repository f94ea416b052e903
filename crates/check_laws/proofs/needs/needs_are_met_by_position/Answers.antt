use Rattle.std.proofs.Common.{arith}
use Rattle.std.proofs.lemmas.Bool.Decides.{nat_tests}
use Rattle.check_laws.proofs.needs.needs_are_met_by_position.Goals as goal

pub returns-clause-end : goal.returns-clause-end
returns-clause-end c = λ content size. (λ met. grind (arith, nat_tests), λ is. grind (arith, nat_tests))

pub returns-clause-at : goal.returns-clause-at
returns-clause-at c = λ content size start. (λ met. grind (arith, nat_tests), λ is. grind (arith, nat_tests))
