use Rattle.std.proofs.Common.{rules}
use Rattle.fmap_steps.proofs.line.read_words.Goals as goal

pub returns-in-empty : goal.returns-in-empty
returns-in-empty c = search rules
