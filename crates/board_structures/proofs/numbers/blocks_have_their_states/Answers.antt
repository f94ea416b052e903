use Rattle.std.proofs.Common.{refl}
use Rattle.board_structures.specs.GoogleBinaryBlocks.{checked_header, gbb_in, header_of}
use Rattle.board_structures.specs.PackedKeys.{packed_key_of}
use Rattle.board_structures.specs.Samples.{small_block}
use Rattle.board_structures.proofs.numbers.blocks_have_their_states.Goals as goal

pub returns-clause-sound : goal.returns-clause-sound
unfolding gbb_in checked_header header_of packed_key_of small_block
returns-clause-sound c = refl

pub returns-clause-blank : goal.returns-clause-blank
unfolding gbb_in checked_header header_of packed_key_of small_block
returns-clause-blank c = refl

pub returns-clause-cut_off : goal.returns-clause-cut_off
unfolding gbb_in checked_header header_of packed_key_of small_block
returns-clause-cut_off c = refl

pub returns-clause-no_signature : goal.returns-clause-no_signature
unfolding gbb_in checked_header header_of packed_key_of small_block
returns-clause-no_signature c = refl

pub returns-clause-recovery_key : goal.returns-clause-recovery_key
unfolding gbb_in checked_header header_of packed_key_of small_block
returns-clause-recovery_key c = refl

pub returns-clause-no_terminator : goal.returns-clause-no_terminator
unfolding gbb_in checked_header header_of packed_key_of small_block
returns-clause-no_terminator c = refl
