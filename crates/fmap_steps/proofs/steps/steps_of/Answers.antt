use Rattle.std.proofs.Common.{rules}
use Rattle.fmap_steps.proofs.steps.steps_of.Goals as goal

pub returns-in-Compile : goal.returns-in-Compile
returns-in-Compile c = search rules
