use Rattle.std.proofs.Common.{◌≡◌, ◌+◌, drop, length}
use Rattle.flash_format.specs.Flashmap.{areas_from}
use Rattle.flash_device.specs.Pages.{HasRead, OnHonest}
use Rattle.check_findings.proofs.MapAreas.{numbered_from}
use Rattle.check_findings.proofs.areas.map_areas.Given as goal

abbrev pub invariant-loop-number : goal.invariant-loop-number
invariant-loop-number g l =
    record {
      read : HasRead l.number 0 l.initial.paged l.paged;
      count : length l.areas.items ≡ l.number;
      areas : OnHonest l.initial.paged.device (λ image. l.areas.items ≡ numbered_from 0 (areas_from l.number (drop (l.map.at + 56) image)));
    }
