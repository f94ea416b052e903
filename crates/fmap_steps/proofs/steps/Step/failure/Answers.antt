use Rattle.std.proofs.Common.{rules}
use Rattle.fmap_steps.proofs.steps.Step.failure.Goals as goal

pub returns-in_default-OutOfMemory : goal.returns-in_default-OutOfMemory
returns-in_default-OutOfMemory c = search rules
