use Rattle.flash_format.proofs.Digits.{Writing}
use Rattle.flash_format.proofs.printed_number.hexadecimal.Given as goal

abbrev pub invariant-loop-rest : goal.invariant-loop-rest
invariant-loop-rest l = Writing l.n l.rest l.at l.digits

abbrev pub decreases-loop-rest : goal.decreases-loop-rest
decreases-loop-rest l = l.rest
