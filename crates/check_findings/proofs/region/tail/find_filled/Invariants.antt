use Rattle.std.proofs.Common.{◌≡◌, ◌+◌, ◌*◌, drop}
use Rattle.std.specs.List.{position_from}
use Rattle.std.specs.Prelude.{◌-◌, length, slice_range}
use Rattle.flash_device.specs.Pages.{HasRead, OnHonestIn}
use Rattle.check_findings.specs.RegionFindings.{first_filled, is_filled}
use Rattle.check_findings.proofs.region.tail.find_filled.Given as goal

abbrev pub invariant-loop-i : goal.invariant-loop-i
invariant-loop-i g l =
    record {
      read : HasRead l.i 0 l.fn.paged l.paged;
      blank : OnHonestIn l.fn.paged.device l.fn.region (λ x.
          first_filled l.fn.at x ≡ position_from is_filled (l.fn.at + 4096 * l.i) (drop (4096 * l.i) (slice_range x l.fn.at (length x - 4))));
    }
