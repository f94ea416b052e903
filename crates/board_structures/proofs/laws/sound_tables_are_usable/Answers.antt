use Rattle.board_structures.proofs.TableRules.{usable_table}
use Rattle.board_structures.proofs.laws.sound_tables_are_usable.Goals as goal

pub returns : goal.returns
returns c = usable_table
