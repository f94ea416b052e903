use Rattle.std.proofs.Common.{ℕ, List, length, ap}
use lib.Chars.{codes}
use Rattle.cbfs_requests.specs.declared.refusal.Refusal.TheVariants.{NoSpace, NotFound, Output}
use Rattle.cbfs_steps.specs.declared.steps.Step.{Step}
use Rattle.cbfs_steps.proofs.numbers.a_refused_change_has_three_steps.Goals as goal

abbrev count : List Step → ℕ
count steps = length steps

pub returns-clause-listing : goal.returns-clause-listing
returns-clause-listing c = ap count (c.refusals_end_commands.ensures.listing NotFound)

pub returns-clause-change : goal.returns-clause-change
returns-clause-change c = ap count (c.refusals_end_commands.ensures.change (codes "COREBOOT") NoSpace)

pub returns-clause-output : goal.returns-clause-output
returns-clause-output c = ap count (c.refusals_end_commands.ensures.output (codes "COREBOOT") Output)

pub returns-clause-first : goal.returns-clause-first
returns-clause-first c = c.refusals_end_commands.ensures.first NotFound
