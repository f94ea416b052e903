use Rattle.flash_device.specs.Regions.{LiesOn}
use Rattle.library_tests.proofs.walk.walks.pass.Given as goal

abbrev pub invariant-loop-call : goal.invariant-loop-call
invariant-loop-call g l = LiesOn l.walk.region l.paged.device
