use Rattle.std.proofs.Common.{refl}
use Rattle.board_structures.specs.FirmwareTables.{entries_fault, firmware_table_in, table_at, table_place, update_at, used_update_in, word_sum}
use Rattle.board_structures.specs.Samples.{image_with_table, small_update}
use Rattle.board_structures.proofs.numbers.firmware_tables_have_their_states.Goals as goal

pub returns-clause-sound : goal.returns-clause-sound
unfolding firmware_table_in table_place table_at entries_fault used_update_in update_at word_sum image_with_table small_update
returns-clause-sound c = refl

pub returns-clause-absent : goal.returns-clause-absent
unfolding firmware_table_in table_place table_at entries_fault used_update_in update_at word_sum image_with_table small_update
returns-clause-absent c = refl

pub returns-clause-empty : goal.returns-clause-empty
unfolding firmware_table_in table_place table_at entries_fault used_update_in update_at word_sum image_with_table small_update
returns-clause-empty c = refl

pub returns-clause-cut_off : goal.returns-clause-cut_off
unfolding firmware_table_in table_place table_at entries_fault used_update_in update_at word_sum image_with_table small_update
returns-clause-cut_off c = refl

pub returns-clause-slot : goal.returns-clause-slot
unfolding firmware_table_in table_place table_at entries_fault used_update_in update_at word_sum image_with_table small_update
returns-clause-slot c = refl

pub returns-clause-version : goal.returns-clause-version
unfolding firmware_table_in table_place table_at entries_fault used_update_in update_at word_sum image_with_table small_update
returns-clause-version c = refl

pub returns-clause-sum : goal.returns-clause-sum
unfolding firmware_table_in table_place table_at entries_fault used_update_in update_at word_sum image_with_table small_update
returns-clause-sum c = refl
