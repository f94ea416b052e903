use Rattle.std.proofs.Common.{◌∙◌, ◌+◌, ◌-◌, arith}
use Rattle.board_structures.proofs.SlotLemmas.{preamble_told}
use Rattle.board_structures.proofs.signed_slot.state_at.Goals as goal

pub returns-clause-state : goal.returns-clause-state
returns-clause-state g c = λ h.
    c.preamble_state.ensures ∙ preamble_told c.args.paged.now.device.content _ c.args.area c.args.body c.args.at (c.start.result + c.from-2.result) (c.size.result - c.from.result) c.requires.area.inside c.requires.inside (omega (arith, c.size.ensures, c.from.ensures)) c.if-room.false (omega (arith, c.start.ensures, c.from-2.ensures)) (c.in_ok-read_small.ensures.read h)
