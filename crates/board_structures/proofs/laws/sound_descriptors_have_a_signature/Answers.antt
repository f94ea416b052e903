use Rattle.board_structures.proofs.Rules.{signed}
use Rattle.board_structures.proofs.laws.sound_descriptors_have_a_signature.Goals as goal

pub returns : goal.returns
returns c = signed
