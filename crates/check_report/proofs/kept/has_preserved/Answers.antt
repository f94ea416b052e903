use Rattle.std.proofs.Common.{rules, tests}
use Rattle.std.proofs.lemmas.Iterator.{YieldsList-from_slice}
use Rattle.std.proofs.lemmas.Iterator.Consumers.{YieldsList-from_chain}
use Rattle.std.proofs.lemmas.Iterator.Search.{any_from_yields_List}
use Rattle.check_report.specs.Reports.{is_preserved}
use Rattle.check_report.proofs.kept.has_preserved.Goals as goal

pub returns : goal.returns
returns c = any_from_yields_List is_preserved _ _ _ c.any.ensures.ran
    (YieldsList-from_chain (YieldsList-from_slice c.args.old_areas.now cc)
    (YieldsList-from_slice c.args.new_areas.now cc) c.chain-areas.ensures.first_done
    c.chain-areas.ensures.second_done) (λ x b q k. search (rules, tests))
