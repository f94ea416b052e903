use Rattle.std.proofs.Common.{arith, ap, ◌∙◌}
use Rattle.std.specs.Option.{option_map}
use Rattle.flash_device.proofs.DeviceLemmas.{honest_still}
use Rattle.cbfs_walk.proofs.Checks.{content_fits}
use Rattle.cbfs_walk.proofs.Parts.{length-region}
use Rattle.cbfs_walk.proofs.AttributeScans.{attributes_found}
use Rattle.flash_device.specs.Regions.{bytes_in}
use Rattle.cbfs_walk.specs.AttrWalks.{attributes_in}
use Rattle.cbfs_anchor.specs.Metadata.{hash_from, stored_hash}
use Rattle.cbfs_anchor.proofs.Hashes.{hash_read}
use Rattle.cbfs_anchor.proofs.metadata.first_hash.Goals as goal

pub returns-in_ok-value_at-in-Some-clause-hash : goal.returns-in_ok-value_at-in-Some-clause-hash
returns-in_ok-value_at-in-Some-clause-hash g c = λ h stands.
    let calls = c.first_attribute.ensures.first.passed.read.device in
    let told = rw c.in-Some.is at (c.in_ok-at.ensures.first.value h) in
    let value = rw (calls.unchanged h) at (c.in_ok-value_at-in-Some.ensures.value (honest_still calls.calls.same_honesty h)) in
    let fits = content_fits c.args.region.size c.args.cell.now c.requires.cell.checks in
    hash_read _ c.args.cell.now (c.in-Some.at, c.in-Some.head) _ (attributes_in (bytes_in c.args.region c.args.paged.now.device.content) c.args.cell.now) (omega (arith, length-region c.args.region c.args.paged.now.device.content c.requires.region.inside, fits.in_region)) (rw c.in-Some.is at c.in_ok-at.ensures.attribute) value told
    ∙ ap stored_hash (attributes_found c.args.region _ c.args.cell.now c.requires.region.inside c.requires.cell stands)

pub returns-in-None-clause-hash : goal.returns-in-None-clause-hash
returns-in-None-clause-hash g c = λ h stands.
    let told = rw c.in-None.is at (c.in_ok-at.ensures.first.value h) in
    ap (option_map hash_from) told ∙ ap stored_hash (attributes_found c.args.region _ c.args.cell.now c.requires.region.inside c.requires.cell stands)
