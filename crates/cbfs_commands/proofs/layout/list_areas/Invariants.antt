use Rattle.std.proofs.Common.{◌+◌}
use Rattle.cbfs_commands.specs.Outcomes.{shows}
use Rattle.cbfs_commands.proofs.Areas.{rows_left, rows_of}
use Rattle.cbfs_commands.proofs.OutputParts.{ToldSoFar}
use Rattle.cbfs_commands.proofs.layout.list_areas.Given as goal

abbrev pub invariant-loop-i : goal.invariant-loop-i
invariant-loop-i g l = ToldSoFar g.W.Sink l.i (λ image. shows (rows_of image l.map.head.nareas (l.map.at + 56)))
    (λ image. rows_left image (l.map.at + 56) l.map.head.nareas l.i) l.initial.paged l.paged l.initial.out l.out
