use Rattle.std.proofs.Common.{rules, tests}
use Rattle.std.proofs.lemmas.Iterator.{YieldsList-from_slice}
use Rattle.std.proofs.lemmas.Iterator.Search.{position_from_yields_List}
use Rattle.check_line.specs.OptionFiles.{is_blank}
use Rattle.check_line.proofs.option_files.first_blank.Goals as goal

pub returns : goal.returns
returns c =
    position_from_yields_List is_blank _ _ _ c.position.ensures.ran (YieldsList-from_slice c.args.line.now cc) (λ x b q k. search (rules, tests))
