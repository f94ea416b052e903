use Rattle.std.proofs.Common.{refl}
use Rattle.board_structures.specs.Samples.{small_preamble}
use Rattle.board_structures.specs.SignedSlots.{preamble_of, preamble_state}
use Rattle.board_structures.proofs.numbers.bodies_have_their_states.Goals as goal

pub returns-clause-sound : goal.returns-clause-sound
unfolding preamble_state preamble_of small_preamble
returns-clause-sound c = refl

pub returns-clause-longest : goal.returns-clause-longest
unfolding preamble_state preamble_of small_preamble
returns-clause-longest c = refl

pub returns-clause-short : goal.returns-clause-short
unfolding preamble_state preamble_of small_preamble
returns-clause-short c = refl

pub returns-clause-long : goal.returns-clause-long
unfolding preamble_state preamble_of small_preamble
returns-clause-long c = refl

pub returns-clause-not_checked : goal.returns-clause-not_checked
unfolding preamble_state preamble_of small_preamble
returns-clause-not_checked c = refl

pub returns-clause-outside : goal.returns-clause-outside
unfolding preamble_state preamble_of small_preamble
returns-clause-outside c = refl
