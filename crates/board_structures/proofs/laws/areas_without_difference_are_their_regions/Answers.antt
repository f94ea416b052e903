use Rattle.board_structures.proofs.Rules.{placed}
use Rattle.board_structures.proofs.laws.areas_without_difference_are_their_regions.Goals as goal

pub returns : goal.returns
returns c = placed
