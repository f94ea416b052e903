use Rattle.std.proofs.Common.{refl}
use Rattle.board_structures.specs.PackedKeys.{packed_key_of}
use Rattle.board_structures.specs.SignedSlots.{checked_keyblock, keyblock_of, signed_slot_in}
use Rattle.board_structures.proofs.numbers.slots_have_their_states.Goals as goal

pub returns-clause-erased : goal.returns-clause-erased
unfolding signed_slot_in checked_keyblock keyblock_of packed_key_of
returns-clause-erased c = refl

pub returns-clause-cleared : goal.returns-clause-cleared
unfolding signed_slot_in checked_keyblock keyblock_of packed_key_of
returns-clause-cleared c = refl

pub returns-clause-cut_off : goal.returns-clause-cut_off
unfolding signed_slot_in checked_keyblock keyblock_of packed_key_of
returns-clause-cut_off c = refl

pub returns-clause-no_magic : goal.returns-clause-no_magic
unfolding signed_slot_in checked_keyblock keyblock_of packed_key_of
returns-clause-no_magic c = refl

pub returns-clause-version : goal.returns-clause-version
unfolding signed_slot_in checked_keyblock keyblock_of packed_key_of
returns-clause-version c = refl
