use Rattle.std.proofs.Common.{◌≡◌, ◌+◌, ◌-◌, ◌*◌, ◌/◌, ◌++◌, drop, length}
use Rattle.flash_device.specs.Pages.{HasRead, OnHonest}
use Rattle.check_findings.specs.ImageFindings.{areas_findings}
use Rattle.check_findings.specs.ImageFindings.{is_named_in}
use Rattle.check_findings.specs.ImageFindings.{AreChecked, region_areas}
use Rattle.check_findings.proofs.image.image.areas_findings.Given as goal

abbrev pub invariant-loop-area : goal.invariant-loop-area
invariant-loop-area g l =
    let n = length l.initial.paged.device.content in
    record {
      read : HasRead ((2 * n - l.left) / 10 + 2 * l.area-index) 0 l.initial.paged l.paged;
      checked : AreChecked n l.area-index l.left (region_areas l.findings.items);
      found : OnHonest l.initial.paged.device (λ image.
          l.findings.items ++ areas_findings image l.anchor (is_named_in l.expected) l.left (drop l.area-index l.areas) ≡ areas_findings image l.anchor (is_named_in l.expected) (2 * length image) l.areas);
    }
