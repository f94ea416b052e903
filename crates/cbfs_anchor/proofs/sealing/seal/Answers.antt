use Rattle.std.proofs.Common.{arith, ◌∙◌}
use Rattle.cbfs_anchor.proofs.Seals.{sealed_already}
use Rattle.cbfs_anchor.proofs.sealing.seal.Goals as goal

pub returns-then-report-2-clause-effect : goal.returns-then-report-2-clause-effect
returns-then-report-2-clause-effect g c = λ h.
    let told = c.in_ok-report.ensures.report h in
    let inside = rw told.2.anchor at c.in_ok-report.ensures.inside in (
      told.0,
      told.1,
      told.2,
      c.in_ok-report.ensures.calls.device.unchanged h ∙ sealed_already told.0 c.args.paged.now.device.content c.in_ok-report.report told.2 (omega (arith, inside)) c.if-report.true c.if-report-2.true,
    )
