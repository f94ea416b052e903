use Rattle.std.proofs.Common.{Ok, map, take}
use Rattle.check_report.specs.Effects.{Adds}
use Rattle.check_report.specs.StructureRows.{structure_row}
use Rattle.check_report.proofs.structures.add_lost_structures.Given as goal

abbrev pub invariant-loop-structure : goal.invariant-loop-structure
invariant-loop-structure g l = Adds g.W.Sink (Ok tt) l.initial.rows l.rows
    (map structure_row (take l.structure-index l.lost))
