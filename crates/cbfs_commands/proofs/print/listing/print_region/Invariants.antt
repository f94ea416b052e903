use Rattle.std.proofs.Common.{◌-◌}
use Rattle.cbfs_commands.proofs.PrintSteps.{PrintedTo}
use Rattle.cbfs_commands.proofs.print.listing.print_region.Given as goal

abbrev pub invariant-loop-cell : goal.invariant-loop-cell
invariant-loop-cell g l = PrintedTo g.W.Sink l.fn.verbose l.fn.region l.initial.paged l.paged l.initial.out l.out l.walk

abbrev pub decreases-loop-cell : goal.decreases-loop-cell
decreases-loop-cell g l = l.walk.region.size - l.walk.at
