use Rattle.std.proofs.Common.{◌+◌, ◌∙◌, arith}
use Rattle.board_structures.proofs.GbbLemmas.{text_told}
use Rattle.board_structures.proofs.gbb.hardware_id_fault.Goals as goal

pub returns-clause-fault : goal.returns-clause-fault
returns-clause-fault g c = λ h.
    c.text_fault.ensures ∙ text_told c.args.paged.now.device.content _ c.args.area c.args.header.now (c.start.result + c.from.result) c.min-n.result (omega (arith, c.start.ensures, c.from.ensures)) c.if-place-eq0.false c.requires.place c.min-n.ensures (c.in_ok-field.ensures.read h)
