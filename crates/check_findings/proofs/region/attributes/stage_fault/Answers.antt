use Rattle.std.proofs.Common.{◌∙◌, arith}
use Rattle.flash_device.specs.Regions.{bytes_in}
use Rattle.flash_device.proofs.DeviceLemmas.{honest_still}
use Rattle.cbfs_walk.proofs.Parts.{length-region}
use Rattle.cbfs_walk.proofs.ReadSequences.{Passes-then, ReadsIn-refused}
use Rattle.check_findings.proofs.RegionLemmas.AttributeLists.{read_stage}
use Rattle.check_findings.proofs.region.attributes.stage_fault.Goals as goal

pub returns : goal.returns
returns g c = record {
  passed = Passes-then c.in_ok-entry.ensures.passed c.in_ok-memory.ensures.passed (omega arith) (omega arith) (omega arith);
  value = λ h.
      let image = c.args.paged.now.device.content in
      let first = c.in_ok-entry.ensures.passed.read.device in
      let memory = rw (first.unchanged h) at (c.in_ok-memory.ensures.value (honest_still first.calls.same_honesty h)) in
      c.then_some.ensures
      ∙ read_stage (bytes_in c.args.region image) c.args.at c.args.len c.in_ok-entry.entry c.in_ok-memory.memory (omega (arith, length-region c.args.region image c.requires.reach.region.inside)) c.if-len-ne24.false (c.in_ok-entry.ensures.value h) memory;
}

pub returns-in_err-memory : goal.returns-in_err-memory
returns-in_err-memory g c = ReadsIn-refused _ _ c.from_residual-in_err-memory.ensures.1 (Passes-then c.in_ok-entry.ensures.passed c.in_err-memory.ensures.passed (omega arith) (omega arith) (omega arith))
