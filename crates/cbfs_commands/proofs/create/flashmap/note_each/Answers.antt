use Rattle.std.proofs.lemmas.Grind.{common_steps}
use Rattle.std.proofs.Common.{◌++◌, ◌∷◌, [], ◌<◌, ℕ, List, Option, None, length, map, set, get_or, sym, ap, ◌∙◌, arith}
use Rattle.std.specs.Borrow.{Bor}
use Rattle.std.proofs.lemmas.List.{length-map, get_or-map}
use Rattle.flash_format.specs.declared.flashmap.Area.{Area}
use Rattle.flash_map.specs.Fmap.{first_area}
use Rattle.cbfs_commands.proofs.PlanSteps.{partly, partly-all, partly-at, partly-more}
use Rattle.cbfs_commands.proofs.create.flashmap.note_each.Goals as goal

pub loop-i-init : goal.loop-i-init
loop-i-init c = λ seen rest is. is

pub loop-i-preserved : goal.loop-i-preserved
loop-i-preserved c = λ seen rest is.
    let i = c.loop-i.i in
    let bytes : Bor (List ℕ) → List ℕ = λ n. n.now in
    let names : List (List ℕ) = map bytes c.args.names.now in
    let f = first_area (seen ++ c.args.area.now ∷ []) in
    let g = first_area seen in
    let short : i < length names = omega (arith, c.loop-i-test.true, length-map c.args.names.now bytes) in
    let name = get_or-map bytes c.args.names.now i _ [] c.loop-i-test.true in
    let found = c.loop-i.invariant seen rest is in
    let before = ap (λ (l : List (Option Area)). get_or l i None) found ∙ partly-at f g names rest i [] short None ∙ ap g name in
    ap (λ (l : List (Option Area)). set l i c.noted.result) found
    ∙ ap (λ (o : Option Area). set (partly f g names rest i) i o) (c.noted.ensures seen before ∙ ap f (sym name))
    ∙ partly-more f g names rest i [] short

pub returns : goal.returns
returns c = grind (arith, common_steps, length-map, partly-all)
