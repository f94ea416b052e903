use Rattle.std.proofs.Common.{◌∙◌}
use Rattle.board_structures.proofs.SlotLemmas.{keyblock_checked, keyblock_told}
use Rattle.board_structures.proofs.signed_slot.read_keyblock.Goals as goal

pub returns-clause-fits : goal.returns-clause-fits
returns-clause-fits g c = keyblock_checked c.size-size.result c.args.area.size _ c.checked_keyblock.result c.checked_keyblock.ensures c.size-size.ensures

pub returns-clause-keyblock : goal.returns-clause-keyblock
returns-clause-keyblock g c = λ h.
    c.checked_keyblock.ensures ∙ keyblock_told c.args.paged.now.device.content _ c.args.area c.start.result c.size-size.result c.requires.inside c.size-size.ensures c.if-size.false c.start.ensures (c.in_ok-read_small.ensures.read h)
