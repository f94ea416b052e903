use Rattle.std.proofs.Common.{take}
use Rattle.check_findings.specs.Areas.{HasFirstAreas}
use Rattle.check_findings.proofs.names.AreaNames.of.Given as goal

abbrev pub invariant-loop-area : goal.invariant-loop-area
invariant-loop-area l = HasFirstAreas l.names (take l.area-index l.areas)
