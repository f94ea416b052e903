use Rattle.std.proofs.Common.{◌≡◌, ◌∙◌, ◌+◌, arith}
use Rattle.std.specs.Prelude.{slice_range}
use Rattle.board_structures.proofs.Parts.{told_after}
use Rattle.board_structures.proofs.SlotLemmas.{checksum_told}
use Rattle.board_structures.proofs.signed_slot.checksum_fault.Goals as goal

pub returns-clause-fault : goal.returns-clause-fault
returns-clause-fault g c = λ h.
    let n = c.args.checksum.now.signed in
    let bytes = told_after c.in_ok-read_small.ensures.after.read (λ image. c.in_ok-bytes.bytes.now ≡ slice_range image c.start-2.result (c.start-2.result + n)) c.in_ok-bytes.ensures.read h in
    c.checksum_result.ensures ∙ checksum_told c.args.paged.now.device.content _ _ c.args.area c.args.checksum.now (c.start.result + 48 + c.from.result) c.start-2.result (omega (arith, c.start.ensures, c.from.ensures)) c.start-2.ensures c.requires.stored c.requires.signed (c.in_ok-read_small.ensures.read h) bytes
