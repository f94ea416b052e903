use Rattle.board_structures.proofs.BlockRules.{usable_block}
use Rattle.board_structures.proofs.laws.sound_blocks_are_usable.Goals as goal

pub returns : goal.returns
returns c = usable_block
