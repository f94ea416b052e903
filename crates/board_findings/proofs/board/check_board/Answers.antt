use Rattle.flash_device.proofs.DeviceLemmas.{honest_still}
use Rattle.board_findings.specs.BoardFindings.{Board}
use Rattle.board_findings.proofs.BoardParts.{all_gained}
use Rattle.board_findings.proofs.board.check_board.Goals as goal

pub returns-clause-found : goal.returns-clause-found
returns-clause-found g c = λ h.
    let b : Board = record { image = c.args.paged.now.device.content; areas = c.args.areas.now } in
    let one = c.push_descriptor.ensures.after.device in
    let h1 = honest_still one.calls.same_honesty h in
    let two = c.push_partition_table.ensures.after.device in
    let h2 = honest_still two.calls.same_honesty h1 in
    let three = c.push_coreboot.ensures.after.device in
    let h3 = honest_still three.calls.same_honesty h2 in
    let four = c.push_gbb.ensures.after.device in
    let h4 = honest_still four.calls.same_honesty h3 in
    let five = c.push_slot.ensures.after.device in
    let h5 = honest_still five.calls.same_honesty h4 in
    all_gained b c.new-findings.result.items c.push_descriptor.new.findings.items c.push_partition_table.new.findings.items c.push_coreboot.new.findings.items c.push_gbb.new.findings.items c.push_slot.new.findings.items c.push_slot-2.new.findings.items
    c.new-findings.ensures.items
    (c.in_ok-push_descriptor.ensures.found h)
    (rw (one.unchanged h) at (c.in_ok-push_partition_table.ensures.found h1))
    (rw (two.unchanged h1, one.unchanged h) at (c.in_ok-push_coreboot.ensures.found h2))
    (rw (three.unchanged h2, two.unchanged h1, one.unchanged h) at (c.in_ok-push_gbb.ensures.found h3))
    (rw (four.unchanged h3, three.unchanged h2, two.unchanged h1, one.unchanged h) at (c.in_ok-push_slot.ensures.found h4))
    (rw (five.unchanged h4, four.unchanged h3, three.unchanged h2, two.unchanged h1, one.unchanged h) at (c.in_ok-push_slot-2.ensures.found h5))
