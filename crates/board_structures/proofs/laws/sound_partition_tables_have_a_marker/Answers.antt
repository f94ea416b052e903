use Rattle.board_structures.proofs.Rules.{marked}
use Rattle.board_structures.proofs.laws.sound_partition_tables_have_a_marker.Goals as goal

pub returns : goal.returns
returns c = marked
