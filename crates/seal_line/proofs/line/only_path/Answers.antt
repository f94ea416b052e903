use Rattle.std.proofs.Common.{◌≡◌, ◌<◌, ◌∙◌, [], ◌∷◌, None, refl, sym, length, arith}
use Rattle.seal_line.specs.SealWords.{Words, only}
use Rattle.seal_line.proofs.Found.{only_after, only_first, only_found, only_many}
use Rattle.seal_line.proofs.line.only_path.Goals as goal

none_empty : (ys : Words) → length ys < 1 → None ≡ only ys
none_empty [] few = refl
none_empty (y ∷ ys) few = absurd (omega arith)

pub returns-then-saturating_add-ne1 : goal.returns-then-saturating_add-ne1
returns-then-saturating_add-ne1 c = only_many _ c.args.before.now c.args.after.now (λ one. c.if-saturating_add-ne1.true (omega (arith, c.count_paths.ensures, c.saturating_add.ensures, one)))

pub returns-in-Some-default : goal.returns-in-Some-default
returns-in-Some-default c = only_found _ c.args.before.now c.args.after.now _ (sym c.first_path.ensures ∙ c.in-Some-default.is-0) (omega (arith, c.count_paths.ensures, c.saturating_add.ensures))

pub returns-in-None-empty : goal.returns-in-None-empty
returns-in-None-empty c =
    let none = sym c.first_path.ensures ∙ c.in-None-empty.is-0 in
    none_empty c.args.after.now c.in-None-empty.len_below ∙ only_after _ c.args.before.now c.args.after.now none

pub returns-in-None-len1-up : goal.returns-in-None-len1-up
returns-in-None-len1-up c =
    let none = sym c.first_path.ensures ∙ c.in-None-len1-up.is-0 in
    only_first _ c.args.before.now c.args.after.now _ none (omega (arith, c.count_paths.ensures, c.saturating_add.ensures)) ∙ only_after _ c.args.before.now c.args.after.now none
