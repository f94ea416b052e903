use Rattle.std.proofs.Common.{rules}
use Rattle.cbfs_anchor.proofs.demand.found_fault.Goals as goal

pub returns-then-is_some-clause-fault : goal.returns-then-is_some-clause-fault
returns-then-is_some-clause-fault c = search rules

pub returns-clause-fault : goal.returns-clause-fault
returns-clause-fault c = search rules
