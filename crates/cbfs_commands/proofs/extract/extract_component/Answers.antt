-- A goal that a must-fail edit breaks, which then fails at once.
use Rattle.std.proofs.Common.{rules}
use Rattle.cbfs_commands.proofs.extract.extract_component.Goals as goal

pub returns-in_err-packing : goal.returns-in_err-packing
returns-in_err-packing g c =
    record { read = search rules; faults = search rules; output = search rules; no_source = search rules; printout = search rules }
