use Rattle.std.proofs.Common.{◌∙◌, ◌+◌, arith, length-take}
use Rattle.std.proofs.lemmas.Result.{err_from_is_err_and}
use Rattle.flash_device.proofs.DeviceLemmas.{honest_still}
use Rattle.cbfs_anchor.proofs.ReadNames.{name_found, name_read, no_name, no_name_there}
use Rattle.cbfs_anchor.proofs.names.name_at.Goals as goal

pub returns-in_err-region-clause-name : goal.returns-in_err-region-clause-name
returns-in_err-region-clause-name g c = λ h.
    let told = err_from_is_err_and c.from_residual.result c.from_residual.ensures.1 in
    rw (told.1, told.2) (no_name _ c.args.at _ (c.in_err-region.ensures.answer h))

pub returns-then-at-len-clause-name : goal.returns-then-at-len-clause-name
returns-then-at-len-clause-name g c = λ h.
    no_name_there _ c.args.at c.in_ok-region.region (c.in_ok-region.ensures.answer h)
    (omega (arith, c.if-at-len.true, c.len-len.ensures.length, c.region.ensures.calls.device.calls.same_length))

pub returns-then-start-len-clause-name : goal.returns-then-start-len-clause-name
returns-then-start-len-clause-name g c = λ h.
    no_name_there _ c.args.at c.in_ok-region.region (c.in_ok-region.ensures.answer h)
    (omega (arith, c.if-start-len.true, c.start.ensures, c.len-len.ensures.length, c.region.ensures.calls.device.calls.same_length))

pub returns-clause-name : goal.returns-clause-name
returns-clause-name g c = λ h.
    let calls = c.region.ensures.calls.device in
    let same = calls.unchanged h in
    let still = honest_still calls.calls.same_honesty h in
    let image = c.args.paged.now.device.content in
    let read = rw same at (c.in_ok-read_small.ensures.read still) in
    name_read image (c.in_ok-region.region.start + c.args.at) c.text_len.result c.min-n.result (c.start.result + c.args.at + 24) _ c.read_small.new.out _
    (omega (arith, c.start.ensures))
    (omega (arith, c.if-start-len.false, c.len-len.ensures.length, calls.calls.same_length))
    (omega (arith, c.min-n.ensures, c.len-len.ensures.length, calls.calls.same_length))
    (omega (arith, length-take c.min-n.result c.args.out.now, c.told-out, c.min-n.ensures)) c.text_len.ensures read
    ∙ name_found image c.args.at c.in_ok-region.region (c.in_ok-region.ensures.answer h)
