use Rattle.std.proofs.Common.{refl}
use Rattle.board_structures.specs.Descriptors.{descriptor_in, state_of_page}
use Rattle.board_structures.specs.Samples.{small_descriptor}
use Rattle.board_structures.proofs.numbers.descriptors_have_their_states.Goals as goal

pub returns-clause-described : goal.returns-clause-described
unfolding descriptor_in state_of_page small_descriptor
returns-clause-described c = refl

pub returns-clause-blank : goal.returns-clause-blank
unfolding descriptor_in state_of_page small_descriptor
returns-clause-blank c = refl

pub returns-clause-no_signature : goal.returns-clause-no_signature
unfolding descriptor_in state_of_page small_descriptor
returns-clause-no_signature c = refl

pub returns-clause-cut_off : goal.returns-clause-cut_off
unfolding descriptor_in state_of_page small_descriptor
returns-clause-cut_off c = refl
