use Rattle.std.proofs.Common.{rules}
use Rattle.cbfs_edit.proofs.EditLists.{sourceless}
use Rattle.cbfs_edit.proofs.edit.apply.Goals as goal

pub returns-in-Err-remove-clause-step : goal.returns-in-Err-remove-clause-step
returns-in-Err-remove-clause-step g c = search (rules, sourceless)
