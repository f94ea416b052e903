use Rattle.board_structures.proofs.BlockRules.{digested}
use Rattle.board_structures.proofs.laws.hardware_ids_without_fault_have_their_digest.Goals as goal

pub returns : goal.returns
returns c = digested
