use Rattle.std.proofs.Common.{◌+◌, ◌∙◌, ap, arith}
use Rattle.board_structures.specs.PackedKeys.{key_fault, packed_key_of}
use Rattle.board_structures.proofs.GbbLemmas.{key_told}
use Rattle.board_structures.proofs.gbb.key_fault_at.Goals as goal

pub returns-clause-fault : goal.returns-clause-fault
returns-clause-fault g c = λ h.
    c.fault.ensures ∙ ap (key_fault c.from-2.result) c.read.ensures ∙ ap (λ n. key_fault n (packed_key_of c.read_small.new.out)) c.from-2.ensures
    ∙ key_told c.args.paged.now.device.content _ c.args.area c.args.place (c.start.result + c.from.result) (omega (arith, c.start.ensures, c.from.ensures)) c.if-place-lt-LENGTH.false c.requires.place (c.in_ok-read_small.ensures.read h)
