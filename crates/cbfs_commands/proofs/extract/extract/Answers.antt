use Rattle.std.proofs.Common.{rules}
use Rattle.cbfs_commands.proofs.extract.extract.Goals as goal

pub returns-in_err-cell : goal.returns-in_err-cell
returns-in_err-cell g c = search rules

pub returns-in-Some : goal.returns-in-Some
returns-in-Some g c = record { read = search rules; faults = search rules; output = search rules; no_source = search rules; printout = search rules }
