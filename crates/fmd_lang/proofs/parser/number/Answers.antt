use Rattle.std.proofs.Common.{refl}
use Rattle.fmd_lang.specs.Faults.{at_sign, past}
use Rattle.fmd_lang.proofs.StepLemmas.{token-number}
use Rattle.fmd_lang.proofs.parser.number.Goals as goal

pub returns-in-Some : goal.returns-in-Some
returns-in-Some c = (token-number at_sign (past 2, c.args.depth) c.in_ok-token.ensures.next c.end.ensures c.in-Some.is refl).reads
