-- The state of a partition table.
use Rattle.std.proofs.Common.{◌≡◌, true, false, List, ℕ, refl}
use Rattle.board_structures.specs.Filling.{each_byte_is, first_page}
use Rattle.board_structures.specs.PartitionTables.{partition_table_in, table_of_page}
use Rattle.board_structures.specs.declared.partition_table.PartitionTable.TheVariants as states

pub blank_table : (x : List ℕ) → each_byte_is 0xff x ≡ true → states.Blank ≡ partition_table_in x
unfolding partition_table_in
blank_table x blank = rw blank refl

pub page_state : (x : List ℕ) → each_byte_is 0xff x ≡ false → table_of_page (first_page x) ≡ partition_table_in x
unfolding partition_table_in
page_state x content = rw content refl
