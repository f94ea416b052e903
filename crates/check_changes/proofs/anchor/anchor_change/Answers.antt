use Rattle.std.proofs.Common.{rules}
use Rattle.check_changes.proofs.anchor.anchor_change.Goals as goal

pub returns-in-Some-None : goal.returns-in-Some-None
returns-in-Some-None c = search rules
