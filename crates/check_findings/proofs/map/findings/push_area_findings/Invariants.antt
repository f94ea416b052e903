use Rattle.std.proofs.Common.{◌≡◌, ◌++◌, drop}
use Rattle.std.specs.List.{flat_map}
use Rattle.check_findings.specs.MapFindings.{area_findings}
use Rattle.check_findings.proofs.map.findings.push_area_findings.Given as goal

abbrev pub invariant-loop-a : goal.invariant-loop-a
invariant-loop-a l = l.findings.items ++ flat_map (area_findings l.len) (drop l.a-index l.areas) ≡ l.initial.findings.items ++ flat_map (area_findings l.len) l.areas
