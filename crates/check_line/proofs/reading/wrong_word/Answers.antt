use Rattle.std.proofs.Common.{◌≡◌, rules, arith, inl, subst, sym}
use Rattle.std.proofs.lemmas.List.{take_all}
use Rattle.std.proofs.lemmas.Option.{slice_get-get_or}
use Rattle.check_line.specs.CheckWords.{IsRefusedFor}
use Rattle.check_line.proofs.Matches.{empty_is_accepted, some_word}
use Rattle.check_line.proofs.reading.wrong_word.Goals.{then-loop-n-test+in_ok-refuses+else-branch, else-loop-n-test}
use Rattle.check_line.proofs.reading.wrong_word.Goals as goal

pub overflow_sub-n : goal.overflow_sub-n
overflow_sub-n c = omega (arith, some_word c.args.kind c.args.words.now c.requires)

pub loop-n-init : goal.loop-n-init
loop-n-init c = record {
  within = omega (arith, some_word c.args.kind c.args.words.now c.requires);
  after = λ m more within. subst (λ ws. IsRefusedFor c.args.kind ws) (sym (take_all m c.args.words.now (omega (arith, more)))) c.requires;
}

pub returns : goal.returns
returns c = record {
  n = c.loop-n.n;
  here = slice_get-get_or c.args.words.now c.loop-n.n _ c.loop-n.invariant.within;
  before = elim c.loop-n-test.branch [
    | then-loop-n-test+in_ok-refuses+else-branch w ↦ search rules
    | else-loop-n-test w ↦
        let none : c.loop-n.n ≡ 0 = omega (arith, w.loop-n-test) in
        rw none (inl empty_is_accepted)
  ];
  from = c.loop-n.invariant.after;
}
