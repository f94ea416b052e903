use Rattle.cbfs_commands.proofs.PrintedRows.{lines_read_back}
use Rattle.cbfs_commands.proofs.laws.lines_are_read_back.Goals as goal

pub returns : goal.returns
returns c = lines_read_back
