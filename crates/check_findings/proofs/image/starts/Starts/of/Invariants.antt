use Rattle.std.proofs.Common.{◌≡◌, take}
use Rattle.check_findings.specs.ImageFindings.{has_smaller, knows_smaller}
use Rattle.check_findings.proofs.image.starts.Starts.of.Given as goal

abbrev pub invariant-loop-area : goal.invariant-loop-area
invariant-loop-area l = knows_smaller l.starts ≡ has_smaller (take l.area-index l.areas)
