use Rattle.std.proofs.Common.{◌≡◌, ◌+◌, drop}
use Rattle.std.specs.List.{position_from}
use Rattle.check_findings.specs.RegionFindings.{is_filled}
use Rattle.check_findings.proofs.region.tail.first_filled.Given as goal

abbrev pub invariant-loop-i : goal.invariant-loop-i
invariant-loop-i l = position_from is_filled (l.at + l.i) (drop l.i l.bytes) ≡ position_from is_filled l.at l.bytes
