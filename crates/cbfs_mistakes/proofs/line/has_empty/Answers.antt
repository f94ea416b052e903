use Rattle.std.proofs.Common.{ℕ, List, length, rules, tests, ◌∙◌}
use Rattle.std.specs.Prelude.{◌==◌}
use Rattle.std.proofs.lemmas.Iterator.{YieldsList-from_slice}
use Rattle.std.proofs.lemmas.Iterator.Search.{any_from_yields_List}
use Rattle.clap.proofs.WalkLemmas.{list_any-map}
use Rattle.cbfs_mistakes.proofs.line.has_empty.Goals as goal

pub returns : goal.returns
returns c =
    any_from_yields_List (λ name. length name.now == 0) _ _ _ c.any.ensures.ran (YieldsList-from_slice c.args.names.now cc) (λ x b q k. search (rules, tests))
    ∙ list_any-map (λ (name : List ℕ). length name == 0) (λ name. name.now) c.args.names.now
