use Rattle.std.proofs.Common.{rules}
use Rattle.seal_line.proofs.named_component.component_name.Goals as goal

pub returns-in-Ok-clause-named : goal.returns-in-Ok-clause-named
returns-in-Ok-clause-named g c = search rules
