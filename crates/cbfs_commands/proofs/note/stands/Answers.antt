-- A goal that a must-fail edit breaks, which then fails at once.
use Rattle.std.proofs.Common.{rules}
use Rattle.cbfs_commands.proofs.note.stands.Goals as goal

pub returns-clause-stands : goal.returns-clause-stands
returns-clause-stands g c = search rules
