use Rattle.std.proofs.Common.{◌∙◌, ◌+◌, ◌-◌, arith}
use Rattle.board_structures.proofs.HeaderLemmas.{pointer_told}
use Rattle.board_structures.proofs.master_header.read_pointer.Goals as goal

pub returns-clause-pointer : goal.returns-clause-pointer
returns-clause-pointer g c = λ h.
    c.read_u32.ensures ∙ pointer_told c.args.paged.now.device.content c.read_small.new.out c.args.area (c.start.result + (c.size.result - 4)) c.requires.area.inside c.requires.long (omega (arith, c.start.ensures, c.size.ensures)) (c.in_ok-read_small.ensures.read h)
