use Rattle.std.proofs.Common.{rules}
use Rattle.fmap_steps.proofs.failure.status_of.Goals as goal

pub returns-in-Err-Usage : goal.returns-in-Err-Usage
returns-in-Err-Usage c = search rules
