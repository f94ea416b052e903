-- Goals that a must-fail edit breaks, which then fail at once.
use Rattle.std.proofs.Common.{rules}
use Rattle.cbfs_commands.proofs.read.read.Goals as goal

pub returns-in_err-region : goal.returns-in_err-region
returns-in_err-region g c = record { read = search rules; faults = search rules; output = search rules; no_source = search rules; printout = search rules }

pub returns : goal.returns
returns g c = record { read = search rules; faults = search rules; output = search rules; no_source = search rules; printout = search rules }
