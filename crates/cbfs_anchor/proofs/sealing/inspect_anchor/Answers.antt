use Rattle.std.proofs.Common.{Ok, sym, ◌∙◌}
use Rattle.flash_device.specs.Regions.{bytes_in}
use Rattle.flash_device.proofs.DeviceLemmas.{honest_still}
use Rattle.cbfs_anchor.specs.Seals.{survey_by}
use Rattle.cbfs_anchor.proofs.Seals.{survey_by_metadata}
use Rattle.cbfs_anchor.proofs.sealing.inspect_anchor.Goals as goal

pub returns-clause-report : goal.returns-clause-report
returns-clause-report g c = λ h.
    let old = c.args.paged.now.device.content in
    let first = c.in_ok-fault.ensures.calls.read.device in
    let second = c.in_ok-metadata.ensures.calls.device in
    let third = c.in_ok-map.ensures.hashed.passed.read.device in
    let once = honest_still first.calls.same_honesty h in
    let twice = honest_still second.calls.same_honesty once in
    let metadata = rw (first.unchanged h) at (c.in_ok-metadata.ensures.hashed once) in
    let map = rw (second.unchanged once, first.unchanged h) at (c.in_ok-map.ensures.hashed.value twice) in
    let report = rw (third.unchanged twice, second.unchanged once, first.unchanged h) at (c.in_ok-report_of.ensures.report (honest_still third.calls.same_honesty twice)) in (
      survey_by c.args.anchor metadata.0 (bytes_in c.args.place.now.map old),
      survey_by_metadata c.args.demand old c.args.place.now c.args.anchor (Ok metadata.0) (sym c.in_default.is ∙ c.in_ok-fault.ensures.fault h) metadata.2,
      report metadata.0 (bytes_in c.args.place.now.map old) metadata.1 map,
    )
