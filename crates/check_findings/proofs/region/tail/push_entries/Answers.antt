use Rattle.std.proofs.Common.{◌≡◌, ◌+◌, ◌*◌, ◌++◌, sym, drop, append_assoc, subst, arith}
use Rattle.flash_device.specs.Regions.{bytes_in}
use Rattle.flash_device.proofs.DeviceLemmas.{honest_still, length-bytes_in}
use Rattle.flash_device.proofs.WindowLemmas.{HasRead-then}
use Rattle.check_findings.proofs.RegionLemmas.PartNames.{entries_findings}
use Rattle.flash_format.specs.Entry.{front}
use Rattle.std.specs.Prelude.{is_some}
use Rattle.check_findings.specs.Lists.{only_if}
use Rattle.check_findings.specs.declared.region.finding.RegionFinding.TheVariants.{TailEntry}
use Rattle.check_findings.proofs.RegionLemmas.Tails.{entries_last}
use Rattle.check_findings.proofs.region.tail.push_entries.Goals as goal

pub loop-i-preserved : goal.loop-i-preserved
loop-i-preserved g c =
    let had = c.loop-i.invariant in
    let device = had.read.device in
    let entry = c.in_ok-has_entry.ensures in
    let i = c.loop-i.i in
    let at = c.args.at in
    let x = bytes_in c.args.region c.args.paged.now.device.content in
    record {
      read = HasRead-then _ 1 0 _ _ _ had.read entry.calls.read;
      found = λ h.
          let has = rw (device.unchanged h) at (entry.has (honest_still device.calls.same_honesty h)) in
          rw (entries_last i at x, sym (append_assoc c.args.findings.now.items (entries_findings i at x) (only_if (is_some (front (drop (at + 64 * i) x))) (TailEntry (at + 64 * i)))), sym (had.found h)) (rw has at c.in_ok-push_if.ensures);
    }

pub returns-clause-found : goal.returns-clause-found
returns-clause-found g c = λ h.
    let r = c.args.region in
    let image = c.args.paged.now.device.content in
    subst (λ n. c.loop-i.findings.items ≡ c.args.findings.now.items ++ entries_findings n c.args.at (bytes_in r image))
    (omega (arith, c.loop-i-test.false, c.size.ensures, length-bytes_in r image c.requires.region.inside)) (c.loop-i.invariant.found h)
