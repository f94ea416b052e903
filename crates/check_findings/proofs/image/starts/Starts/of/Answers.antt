use Rattle.std.proofs.Common.{◌≡◌}
use Rattle.check_findings.specs.ImageFindings.{has_smaller, knows_smaller}
use Rattle.check_findings.proofs.FirstAreas.{one_taken}
use Rattle.check_findings.proofs.image.starts.Starts.of.Goals as goal

pub loop-area-preserved : goal.loop-area-preserved
loop-area-preserved c = one_taken (λ l. knows_smaller c.loop-area.starts ≡ has_smaller l) (λ l. knows_smaller c.add.new.self ≡ has_smaller l) c.args.areas.now c.loop-area.area-index _ c.loop-area-test.true (c.in_ok-add.ensures _) c.loop-area.invariant
