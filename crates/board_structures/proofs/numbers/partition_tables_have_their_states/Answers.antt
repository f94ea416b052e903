use Rattle.std.proofs.Common.{refl}
use Rattle.board_structures.specs.PartitionTables.{partition_table_in}
use Rattle.board_structures.specs.Samples.{small_me, old_me}
use Rattle.board_structures.proofs.numbers.partition_tables_have_their_states.Goals as goal

pub returns-clause-newer : goal.returns-clause-newer
unfolding partition_table_in small_me old_me
returns-clause-newer c = refl

pub returns-clause-older : goal.returns-clause-older
unfolding partition_table_in small_me old_me
returns-clause-older c = refl

pub returns-clause-blank : goal.returns-clause-blank
unfolding partition_table_in small_me old_me
returns-clause-blank c = refl

pub returns-clause-missing : goal.returns-clause-missing
unfolding partition_table_in small_me old_me
returns-clause-missing c = refl
