use Rattle.std.proofs.Common.{◌≡◌, length, drop}
use Rattle.cbfs_commands.specs.Creations.{region_places}
use Rattle.cbfs_commands.proofs.PlanSteps.{joined}
use Rattle.cbfs_commands.proofs.create.plan.region_places.Given as goal

abbrev pub invariant-loop-i : goal.invariant-loop-i
invariant-loop-i l = record { places : region_places l.image_len l.areas ≡ joined l.places.items (region_places l.image_len (drop l.i l.areas)); few : length l.places.items ≡ l.i }
