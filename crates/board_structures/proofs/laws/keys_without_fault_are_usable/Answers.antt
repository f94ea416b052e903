use Rattle.board_structures.proofs.BlockRules.{usable_key}
use Rattle.board_structures.proofs.laws.keys_without_fault_are_usable.Goals as goal

pub returns : goal.returns
returns c = usable_key
