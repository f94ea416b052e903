-- Goals that must-fail edits break, which then fail at once.
use Rattle.std.proofs.Common.{rules}
use Rattle.cbfs_commands.proofs.note.is_note_due.Goals as goal

pub returns-in-Write-Ok-clause-noted : goal.returns-in-Write-Ok-clause-noted
returns-in-Write-Ok-clause-noted g c = search rules

pub returns-in-Remove-Ok-clause-noted : goal.returns-in-Remove-Ok-clause-noted
returns-in-Remove-Ok-clause-noted g c = search rules
