use Rattle.std.proofs.Common.{◌≡◌}
use Rattle.flash_device.specs.Regions.{LiesOn}
use Rattle.library_tests.proofs.walk.walks.answers.Given as goal

abbrev pub invariant-loop-one : goal.invariant-loop-one
invariant-loop-one g l = record {
  lies : LiesOn l.walk.region l.paged.device;
  region : l.walk.region ≡ l.initial.walk.region;
}
