use Rattle.std.proofs.Common.{◌∙◌, rules, tests}
use Rattle.std.proofs.lemmas.Iterator.{YieldsList-from_slice}
use Rattle.std.proofs.lemmas.Iterator.Consumers.{YieldsList-from_copied}
use Rattle.std.proofs.lemmas.Iterator.Search.{find_from_yields_List}
use Rattle.seal_line.proofs.Found.{copied}
use Rattle.seal_line.proofs.line.request_in.Goals as goal

pub returns : goal.returns
returns c = copied c.find.result ∙ find_from_yields_List _ _ _ c.find.result c.find.ensures.ran
    (YieldsList-from_copied (YieldsList-from_slice c.args.words.now cc)) (λ x b q k. search (rules, tests))
