use Rattle.std.proofs.Common.{rules}
use Rattle.check_findings.proofs.image.verdict.is_firmware.Goals as goal

pub returns-in_default : goal.returns-in_default
returns-in_default c = search rules
