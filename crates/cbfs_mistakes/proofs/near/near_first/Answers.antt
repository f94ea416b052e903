use Rattle.std.proofs.Common.{◌≡◌, ◌∙◌, ◌++◌, ℕ, take, ap}
use Rattle.std.specs.Prelude.{filter}
use Rattle.std.specs.Global.{Vec}
use Rattle.std.proofs.lemmas.List.{map-append, take_all}
use Rattle.cbfs_mistakes.specs.Near.{is_near}
use Rattle.cbfs_mistakes.proofs.AreaNames.{names_of}
use Rattle.cbfs_mistakes.proofs.near.near_first.Goals as goal

pub returns : goal.returns
returns c =
    let inv = c.loop-name.invariant in
    let all : take c.loop-name.name-index c.args.names.now ≡ c.args.names.now = take_all _ _ c.loop-name-test.false in
    ap names_of c.in_ok-append.ensures.items
    ∙ map-append (λ (name : Vec ℕ). name.items) c.loop-name.near.items c.loop-name.others.items
    ∙ ap (λ l. l ++ names_of c.loop-name.others.items) (rw all at inv.near)
    ∙ ap (λ l. filter (is_near c.args.word.now) (names_of c.args.names.now) ++ l) (rw all at inv.others)
