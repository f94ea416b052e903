use Rattle.std.proofs.lemmas.Grind.{common_steps}
use Rattle.std.proofs.Common.{arith, refl, replicate}
use Rattle.flash_format.specs.Texts.{hexadecimal}
use Rattle.flash_format.proofs.Digits.{writing_start, writing_more, writing_end}
use Rattle.flash_format.proofs.printed_number.hexadecimal.Goals as goal

pub loop-rest-init : goal.loop-rest-init
loop-rest-init c = rw c.digit.ensures (writing_start c.args.n (replicate 16 48) (omega arith) refl)

pub loop-rest-preserved : goal.loop-rest-preserved
loop-rest-preserved c = grind (arith, common_steps, writing_more)

pub returns : goal.returns
unfolding hexadecimal
returns c = grind (arith, common_steps, writing_end)
