use Rattle.std.proofs.Common.{◌≡◌, ◌∙◌, ℕ, List, Bor, Option, Some, None, option_map, refl, rules, tests}
use Rattle.std.proofs.lemmas.Iterator.{YieldsList-from_slice}
use Rattle.std.proofs.lemmas.Iterator.Consumers.{YieldsList-from_copied}
use Rattle.std.proofs.lemmas.Iterator.Search.{YieldsList-from_take_while, find_from_yields_List}
use Rattle.std.specs.Prelude.{not}
use Rattle.std.specs.Str.{bytes_eq}
use lib.Chars.{codes}
use Rattle.check_line.proofs.reading.request_in.Goals as goal

copied : (r : Option (Bor (List ℕ))) → r ≡ option_map (λ (w : Bor (List ℕ)). w) r
copied None = refl
copied (Some w) = refl

pub returns : goal.returns
returns c =
    copied c.find.result ∙ find_from_yields_List _ _ _ c.find.result c.find.ensures.ran
    (YieldsList-from_take_while _ (λ word. not (bytes_eq word.now (codes "--"))) (YieldsList-from_copied (YieldsList-from_slice c.args.words.now cc)) c.take_while.ensures.closure c.take_while.ensures.done (λ x b q k. search (rules, tests)))
    (λ x b q k. search (rules, tests))
