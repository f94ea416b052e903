use Rattle.std.proofs.Common.{◌≡◌, ◌++◌, drop}
use Rattle.std.specs.List.{flat_map}
use Rattle.check_findings.specs.MapFindings.{name_findings}
use Rattle.check_findings.proofs.map.names.push_name_findings.Given as goal

abbrev pub invariant-loop-a : goal.invariant-loop-a
invariant-loop-a l = l.findings.items ++ flat_map (name_findings l.areas) (drop l.a-index l.areas) ≡ l.initial.findings.items ++ flat_map (name_findings l.areas) l.areas
