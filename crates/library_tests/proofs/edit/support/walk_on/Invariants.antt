use Rattle.std.proofs.Common.{◌-◌, ◌≡◌, true}
use Rattle.flash_device.specs.Regions.{LiesOn}
use Rattle.library_tests.proofs.edit.support.walk_on.Given as goal

abbrev pub invariant-loop-cell : goal.invariant-loop-cell
invariant-loop-cell l = record {
  lies : LiesOn l.walk.region (record { content = l.paged.device.content; calls = l.paged.device.calls; faults = 0; honest = true });
  region : l.walk.region ≡ l.initial.walk.region;
}

abbrev pub decreases-loop-cell : goal.decreases-loop-cell
decreases-loop-cell l = l.walk.region.size - l.walk.at
