use Rattle.std.proofs.Common.{refl}
use Rattle.fmd_lang.specs.Faults.{at_sign, past}
use Rattle.fmd_lang.specs.declared.word.Kind.TheVariants.{At}
use Rattle.fmd_lang.proofs.StepLemmas.{reads-then, token-mark}
use Rattle.fmd_lang.proofs.parser.offset.Goals as goal

pub returns-in_ok-value-in-At : goal.returns-in_ok-value-in-At
returns-in_ok-value-in-At c =
    let word = token-mark (past 1) (at_sign, c.args.depth) At c.in_ok-token.ensures.next c.end.ensures c.in-At.is (λ e. cc) refl in
    reads-then word.reads c.in_ok-value-in-At.ensures
