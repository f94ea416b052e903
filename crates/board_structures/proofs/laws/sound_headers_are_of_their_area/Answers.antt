use Rattle.board_structures.proofs.SlotRules.{header_of_area}
use Rattle.board_structures.proofs.laws.sound_headers_are_of_their_area.Goals as goal

pub returns : goal.returns
returns c = header_of_area
