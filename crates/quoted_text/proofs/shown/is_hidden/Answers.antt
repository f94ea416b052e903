use Rattle.std.proofs.Common.{rules}
use Rattle.quoted_text.specs.Shown.{is_hidden}
use Rattle.quoted_text.proofs.shown.is_hidden.Goals as goal

pub returns : goal.returns
unfolding is_hidden
returns c = search rules
