use Rattle.std.proofs.Common.{◌≡◌, ◌++◌}
use Rattle.flash_device.specs.Pages.{HasRead, OnHonestIn}
use Rattle.check_findings.proofs.RegionLemmas.PartNames.{entries_findings}
use Rattle.check_findings.proofs.region.tail.push_entries.Given as goal

abbrev pub invariant-loop-i : goal.invariant-loop-i
invariant-loop-i g l =
    record {
      read : HasRead l.i 0 l.initial.paged l.paged;
      found : OnHonestIn l.initial.paged.device l.region (λ x.
          l.findings.items ≡ l.initial.findings.items ++ entries_findings l.i l.at x);
    }
