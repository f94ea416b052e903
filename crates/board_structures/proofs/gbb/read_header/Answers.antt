use Rattle.std.proofs.Common.{◌∙◌}
use Rattle.board_structures.proofs.GbbLemmas.{header_checked, header_told}
use Rattle.board_structures.proofs.gbb.read_header.Goals as goal

pub returns-clause-places : goal.returns-clause-places
returns-clause-places g c = header_checked c.size-size.result c.args.area.size _ c.checked_header.result c.checked_header.ensures c.size-size.ensures

pub returns-clause-header : goal.returns-clause-header
returns-clause-header g c = λ h.
    c.checked_header.ensures ∙ header_told c.args.paged.now.device.content _ c.args.area c.start.result c.size-size.result c.requires.inside c.size-size.ensures c.if-size.false c.start.ensures (c.in_ok-read_small.ensures.read h)
