use Rattle.board_structures.proofs.SlotRules.{covered_slot}
use Rattle.board_structures.proofs.laws.signed_slots_are_covered.Goals as goal

pub returns : goal.returns
returns c = covered_slot
