use Rattle.std.proofs.Common.{◌∙◌, ◌+◌, ◌&&◌, ap}
use Rattle.std.specs.Prelude.{◌==◌}
use Rattle.flash_device.proofs.DeviceLemmas.{honest_still}
use Rattle.board_findings.specs.BoardFindings.{Board}
use Rattle.board_findings.proofs.CorebootParts.{gains_all}
use Rattle.board_findings.proofs.coreboot.push_coreboot.Goals as goal

pub returns-clause-found : goal.returns-clause-found
returns-clause-found g c = λ h.
    let b : Board = record { image = c.args.paged.now.device.content; areas = c.args.areas.now } in
    let walk = c.in_ok-components.ensures.calls.device in
    let h0 = honest_still walk.calls.same_honesty h in
    let first = c.push_reset_vector.ensures.after.device in
    let h1 = honest_still first.calls.same_honesty h0 in
    let second = c.push_firmware_table.ensures.after.device in
    let x86 = c.is_x86-is_x86.ensures ∙ ap (λ n. c.in-Some.region.start + c.in-Some.region.size == n && c.has_bootblock_to-is_end.result) (rw (walk.unchanged h) at c.len-2.ensures.length) in
    let vector = rw x86 at (rw (walk.unchanged h) at (c.in_ok-push_reset_vector.ensures.found h0)) in
    let table = rw x86 at (rw (first.unchanged h0, walk.unchanged h) at (c.in_ok-push_firmware_table.ensures.found h1)) in
    let header = rw (second.unchanged h1, first.unchanged h0, walk.unchanged h) at (c.push_master_header.ensures.found (honest_still second.calls.same_honesty h1)) in
    gains_all b c.in-Some.region c.len.result c.in_ok-components.components.items c.has_bootblock_to-is_end.result c.first_header-header.result
    c.args.findings.now c.push_reset_vector.new.findings c.push_firmware_table.new.findings c.push_master_header.new.findings c.push_master_header.result
    c.len.ensures.length c.in-Some.ensures.range (c.in_ok-components.ensures.found h)
    (rw (c.size.ensures, c.deref.ensures.value) at c.has_bootblock_to-is_end.ensures) (rw c.deref-2.ensures.value at c.first_header-header.ensures)
    vector table header
