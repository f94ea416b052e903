use Rattle.std.proofs.Common.{rules}
use Rattle.cbfs_line.proofs.line.Line.command.Goals as goal

pub returns-in-create : goal.returns-in-create
returns-in-create c = rw (c.with_file-in-create.ensures, c.creation.ensures, c.regions-regions.ensures) (search rules)
