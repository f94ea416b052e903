use Rattle.check_findings.specs.Areas.{HasFirstAreas}
use Rattle.check_findings.proofs.FirstAreas.{one_taken}
use Rattle.check_findings.proofs.names.AreaNames.of.Goals as goal

pub loop-area-preserved : goal.loop-area-preserved
loop-area-preserved c = one_taken (HasFirstAreas c.loop-area.names) (HasFirstAreas c.add.new.self) c.args.areas.now c.loop-area.area-index _ c.loop-area-test.true (c.in_ok-add.ensures _) c.loop-area.invariant
