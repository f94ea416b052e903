use Rattle.std.proofs.Common.{◌≡◌, ◌++◌, drop}
use Rattle.board_findings.specs.BoardFindings.{differences_of}
use Rattle.board_findings.proofs.intel.push_differences.Given as goal

abbrev pub invariant-loop-region : goal.invariant-loop-region
invariant-loop-region l =
    l.findings.items ++ differences_of l.areas l.table (drop l.region-index l.regions) ≡ l.initial.findings.items ++ differences_of l.areas l.table l.regions
