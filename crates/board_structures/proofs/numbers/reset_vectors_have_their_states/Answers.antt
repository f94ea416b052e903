use Rattle.std.proofs.Common.{refl}
use Rattle.board_structures.specs.ResetVectors.{reset_vector_in}
use Rattle.board_structures.specs.Samples.{small_end}
use Rattle.board_structures.proofs.numbers.reset_vectors_have_their_states.Goals as goal

pub returns-clause-code : goal.returns-clause-code
unfolding reset_vector_in small_end
returns-clause-code c = refl

pub returns-clause-erased : goal.returns-clause-erased
unfolding reset_vector_in small_end
returns-clause-erased c = refl

pub returns-clause-cleared : goal.returns-clause-cleared
unfolding reset_vector_in small_end
returns-clause-cleared c = refl

pub returns-clause-cut_off : goal.returns-clause-cut_off
unfolding reset_vector_in small_end
returns-clause-cut_off c = refl
