use Rattle.board_findings.proofs.LostStructures.{lost_exactly}
use Rattle.board_findings.proofs.laws.lost_structures_are_gone.Goals as goal

pub returns : goal.returns
returns c = lost_exactly
