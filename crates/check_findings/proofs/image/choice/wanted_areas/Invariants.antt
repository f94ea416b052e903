use Rattle.std.proofs.Common.{◌≡◌, ◌≤◌, All, length, take}
use Rattle.std.specs.Prelude.{filter}
use Rattle.flash_device.specs.Pages.{HasRead, OnHonest}
use Rattle.check_findings.specs.Areas.{area_end}
use Rattle.check_findings.specs.ImageFindings.{has_smaller, is_named_in, is_wanted}
use Rattle.check_findings.specs.ImageFindings.{is_named_in}
use Rattle.check_findings.proofs.image.choice.wanted_areas.Given as goal

abbrev pub invariant-loop-area : goal.invariant-loop-area
invariant-loop-area g l =
    record {
      read : HasRead l.area-index 0 l.initial.paged l.paged;
      inside : All (λ a. area_end a.area ≤ length l.initial.paged.device.content) l.wanted.items;
      count : length l.wanted.items ≤ l.area-index;
      areas : OnHonest l.initial.paged.device (λ image. l.wanted.items ≡ filter (is_wanted image (is_named_in l.expected) (has_smaller l.areas)) (take l.area-index l.areas));
    }
