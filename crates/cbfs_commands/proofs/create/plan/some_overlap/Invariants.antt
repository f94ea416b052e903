use Rattle.std.proofs.Common.{◌≡◌, length}
use Rattle.cbfs_commands.specs.Creations.{some_overlap}
use Rattle.cbfs_commands.proofs.create.plan.some_overlap.Given as goal

abbrev pub invariant-loop-places : goal.invariant-loop-places
invariant-loop-places l = some_overlap l.initial.places ≡ some_overlap l.places

abbrev pub decreases-loop-places : goal.decreases-loop-places
decreases-loop-places l = length l.places
