use Rattle.std.proofs.Common.{rules}
use Rattle.check_findings.proofs.anchor.checked_anchor.digest_findings.Goals as goal

pub returns-in_ok-vec-in-Ok-clause-findings : goal.returns-in_ok-vec-in-Ok-clause-findings
returns-in_ok-vec-in-Ok-clause-findings g c = search rules
