use Rattle.std.proofs.Common.{rules}
use Rattle.cbfscheck.proofs.refusal.Refusal.of_report.Goals as goal

pub returns : goal.returns
returns c = search rules
