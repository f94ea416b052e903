use Rattle.std.proofs.Common.{arith, sym}
use Rattle.std.proofs.lemmas.List.{take_all}
use Rattle.std.proofs.lemmas.Str.Pattern.{split_once_first}
use Rattle.cbfs_mistakes.proofs.suggestion.without_value.Goals as goal

pub returns-in-Some : goal.returns-in-Some
returns-in-Some c =
    let cut = split_once_first 61 c.args.word.now _ c.split_once.ensures.cases (omega arith) in
    let parts = rw c.in-Some.is at cut in parts.1

pub returns-in-None : goal.returns-in-None
returns-in-None c =
    let cut = split_once_first 61 c.args.word.now _ c.split_once.ensures.cases (omega arith) in
    let whole = rw c.in-None.is at cut in sym (take_all _ c.args.word.now (omega (arith, whole)))
