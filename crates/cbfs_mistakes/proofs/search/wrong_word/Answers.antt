use Rattle.std.proofs.Common.{◌∙◌, ◌-◌, rules, arith, refl, subst, sym}
use Rattle.std.proofs.lemmas.List.{take_all}
use Rattle.std.proofs.lemmas.Option.{slice_get-get_or}
use Rattle.cbfs_mistakes.specs.WrongWords.{IsRefusedFor}
use Rattle.cbfs_mistakes.proofs.Refused.{none_is_spared, previous_is, some_word}
use Rattle.cbfs_mistakes.proofs.search.wrong_word.Goals.{then-loop-n-test+in_ok-refuses+else-branch, else-loop-n-test}
use Rattle.cbfs_mistakes.proofs.search.wrong_word.Goals as goal

pub overflow_sub-n : goal.overflow_sub-n
overflow_sub-n c = omega (arith, some_word c.args.kind c.args.words.now c.requires.named c.requires.refused)

pub loop-n-init : goal.loop-n-init
loop-n-init c = record {
  within = omega (arith, some_word c.args.kind c.args.words.now c.requires.named c.requires.refused);
  after = λ m more within. subst (λ ws. IsRefusedFor c.args.kind ws) (sym (take_all m c.args.words.now (omega (arith, more)))) c.requires.refused;
}

pub returns-then-n-eq0 : goal.returns-then-n-eq0
returns-then-n-eq0 c = record {
  n = c.loop-n.n;
  here = slice_get-get_or c.args.words.now c.loop-n.n _ c.loop-n.invariant.within;
  preceding = rw c.if-n-eq0.true refl;
  spared = rw c.if-n-eq0.true (none_is_spared c.args.kind c.requires.named);
  from = c.loop-n.invariant.after;
}

pub returns : goal.returns
returns c = record {
  n = c.loop-n.n;
  here = slice_get-get_or c.args.words.now c.loop-n.n _ c.loop-n.invariant.within;
  preceding = sym (previous_is c.args.words.now c.loop-n.n (omega (arith, c.if-n-eq0.false))
      ∙ slice_get-get_or c.args.words.now (c.loop-n.n - 1) _ (omega (arith, c.loop-n.invariant.within)));
  spared = elim c.loop-n-test.branch [
    | then-loop-n-test+in_ok-refuses+else-branch w ↦ search rules
    | else-loop-n-test w ↦ absurd (c.if-n-eq0.false (omega (arith, w.loop-n-test)))
  ];
  from = c.loop-n.invariant.after;
}
