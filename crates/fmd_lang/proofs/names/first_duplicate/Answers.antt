use Rattle.std.proofs.lemmas.Bool.Decides.{nat_tests}
use Rattle.std.proofs.lemmas.Grind.{common_steps}
use Rattle.std.proofs.Common.{◌∙◌, sym, refl, rules, false, get_or, arith}
use Rattle.std.proofs.lemmas.Bool.{not-false, not-true}
use Rattle.std.proofs.lemmas.List.{drop_all}
use Rattle.fmd_lang.proofs.NameLemmas.{has, no_name, duplicate-at, has-more}
use Rattle.fmd_lang.proofs.names.first_duplicate.Goals as goal

pub returns-then-not-branch : goal.returns-then-not-branch
returns-then-not-branch c = grind (arith, common_steps, no_name, not-false, duplicate-at)

pub loop-number-preserved : goal.loop-number-preserved
loop-number-preserved c =
    let names = c.args.names.now in
    let n = c.loop-number.number in
    let x = (get_or names n no_name).now in
    let new = not-true (has x c.loop-number.seen.keys) (sym c.in_ok-insert.ensures.added ∙ c.if-not-branch.false) in (
      λ q. has-more names n q _ _ c.loop-number-test.true (c.in_ok-insert.ensures.updates.0 (record no_name { now = q }))
          (c.loop-number.invariant.0 q),
      c.loop-number.invariant.1 ∙ duplicate-at names n false c.loop-number-test.true (sym (c.loop-number.invariant.0 x) ∙ new),
    )

pub loop-number-init : goal.loop-number-init
loop-number-init c = (λ q. search rules, refl)

pub returns : goal.returns
returns c = grind (arith, nat_tests, drop_all)
