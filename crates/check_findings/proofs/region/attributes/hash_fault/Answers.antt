use Rattle.std.proofs.Common.{◌∙◌, arith}
use Rattle.flash_device.specs.Regions.{bytes_in}
use Rattle.cbfs_walk.proofs.Parts.{length-region}
use Rattle.cbfs_walk.proofs.ReadSequences.{Passes-within}
use Rattle.check_findings.proofs.RegionLemmas.AttributeLists.{read_hash}
use Rattle.check_findings.proofs.region.attributes.hash_fault.Goals as goal

pub returns : goal.returns
returns g c = record {
  passed = Passes-within c.in_ok-number.ensures.passed (omega arith) (omega arith);
  value = λ h.
      let image = c.args.paged.now.device.content in
      c.numbered_fault.ensures
      ∙ read_hash (bytes_in c.args.region image) c.args.at c.args.len c.in_ok-number.number c.args.has_digest (omega (arith, length-region c.args.region image c.requires.reach.region.inside)) c.if-len-lt12.false (c.in_ok-number.ensures.value h);
}
