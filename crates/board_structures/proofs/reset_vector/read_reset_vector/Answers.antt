use Rattle.std.proofs.Common.{◌∙◌, ap, arith}
use Rattle.board_structures.specs.ResetVectors.{state_of_code}
use Rattle.board_structures.proofs.ResetVectorLemmas.{cut_off, code_state}
use Rattle.board_structures.proofs.reset_vector.read_reset_vector.Goals as goal

pub returns-then-len-lt-DISTANCE-clause-state : goal.returns-then-len-lt-DISTANCE-clause-state
returns-then-len-lt-DISTANCE-clause-state g c = λ h. cut_off _ (omega (arith, c.len-len.ensures.length, c.if-len-lt-DISTANCE.true))

pub returns-clause-state : goal.returns-clause-state
returns-clause-state g c = λ h. c.state_of_code.ensures ∙ ap state_of_code (c.in_ok-read_small.ensures.read h) ∙ code_state _ c.len-len.result c.len-len.ensures.length c.if-len-lt-DISTANCE.false
