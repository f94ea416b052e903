use Rattle.std.proofs.Common.{ap, ◌∙◌, arith}
use Rattle.flash_format.specs.Entry.{attr_head_of}
use Rattle.flash_device.specs.Regions.{bytes_in}
use Rattle.cbfs_walk.proofs.Parts.{length-region}
use Rattle.check_findings.proofs.RegionLemmas.AttributeLists.{first_by}
use Rattle.check_findings.proofs.region.attributes.head_at.Goals as goal

pub returns-clause-head : goal.returns-clause-head
returns-clause-head g c = λ h.
    let image = c.args.paged.now.device.content in
    let room = rw c.saturating_sub.ensures at c.if-saturating_sub-lt8.false in
    c.then_some.ensures
    ∙ first_by (bytes_in c.args.region image) c.args.at c.args.end c.read-head.result c.fits.result (omega (arith, room)) (omega (arith, length-region c.args.region image c.requires.region.inside, c.requires.inside))
    (c.read-head.ensures ∙ ap attr_head_of (c.in_ok-read_in.ensures.value h)) c.fits.ensures
