use Rattle.std.proofs.Common.{rules}
use Rattle.check_findings.proofs.image.verdict.has_long_metadata.Goals as goal

pub returns : goal.returns
returns c = search rules
