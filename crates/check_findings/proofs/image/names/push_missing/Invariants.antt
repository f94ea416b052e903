use Rattle.std.proofs.Common.{◌≡◌, ◌++◌, drop, map}
use Rattle.check_findings.specs.ImageFindings.{missing_name}
use Rattle.std.specs.List.{enumerate_from, flat_map}
use Rattle.check_findings.proofs.image.names.push_missing.Given as goal

abbrev pub invariant-loop-number : goal.invariant-loop-number
invariant-loop-number l = l.findings.items ++ flat_map (missing_name l.areas-2) (enumerate_from l.number (map (λ n. n.now) (drop l.number l.names))) ≡ l.initial.findings.items ++ flat_map (missing_name l.areas-2) (enumerate_from 0 (map (λ n. n.now) l.names))
