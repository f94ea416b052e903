use Rattle.board_structures.proofs.Rules.{has_code}
use Rattle.board_structures.proofs.laws.sound_reset_vectors_have_code.Goals as goal

pub returns : goal.returns
returns c = has_code
