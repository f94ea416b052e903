use Rattle.std.proofs.Common.{◌∙◌}
use Rattle.flash_store.proofs.StoringLemmas.{there-again, faithful_still}
use Rattle.flash_store.proofs.transfer.make_room.Goals as goal

pub returns-clause-same : goal.returns-clause-same
returns-clause-same g c = λ h.
    let read = c.in_ok-read_whole.ensures in
    let faith = faithful_still c.read_whole.ensures.call.within.same_honesty h in
    c.write_in_one.ensures.after.same faith (there-again _ _ _ c.args.at 28 c.requires (read.read h) (c.read_whole.ensures.unchanged h))
    ∙ c.read_whole.ensures.unchanged h

pub returns-in_err-write_in_one-clause-same : goal.returns-in_err-write_in_one-clause-same
returns-in_err-write_in_one-clause-same g c = λ h.
    let read = c.in_ok-read_whole.ensures in
    let faith = faithful_still c.read_whole.ensures.call.within.same_honesty h in
    c.write_in_one.ensures.after.same faith (there-again _ _ _ c.args.at 28 c.requires (read.read h) (c.read_whole.ensures.unchanged h))
    ∙ c.read_whole.ensures.unchanged h
