use Rattle.std.proofs.Common.{Option}
use Rattle.cbfs_mistakes.specs.Lines.{cause_of}
use Rattle.cbfs_mistakes.specs.Mistakes.{Names}
use Rattle.cbfs_mistakes.specs.declared.mistake.Mistake.{Mistake}
use Rattle.cbfs_mistakes.proofs.Refused.{exactly, on_ok}
use Rattle.cbfs_mistakes.proofs.search.find_mistake.Goals as goal

pub returns-in-Ok-clause-exact : goal.returns-in-Ok-clause-exact
returns-in-Ok-clause-exact c =
    on_ok (λ (m : Option Mistake). Names (cause_of c.in-Ok.line) m) _ c.line_mistake.result
    (λ m names. exactly c.args.words.now c.in-Ok.line m c.in-Ok.ensures.faultless c.in-Ok.ensures.line names) c.line_mistake.ensures
