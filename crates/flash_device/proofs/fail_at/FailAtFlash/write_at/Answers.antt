use Rattle.std.proofs.Common.{rules}
use Rattle.flash_device.proofs.BytesLemmas.{torn_part}
use Rattle.flash_device.proofs.fail_at.FailAtFlash.write_at.Goals as goal

pub returns-in_err-write_part-clause-after : goal.returns-in_err-write_part-clause-after
returns-in_err-write_part-clause-after g c =
    let torn = torn_part _ _ _ _ _ c.write_part.ensures.torn in
    search (rules, torn)

pub returns-clause-after : goal.returns-clause-after
returns-clause-after g c =
    let torn = torn_part _ _ _ _ _ c.write_part.ensures.torn in
    search (rules, torn)
