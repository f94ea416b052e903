use Rattle.std.proofs.Common.{◌≡◌}
use Rattle.check_report.specs.Rows.{seen_row}
use Rattle.check_report.proofs.RowCounts.{Passed}
use Rattle.check_report.proofs.rows.kinds.count_by_kind.Given as goal

abbrev pub invariant-loop-i : goal.invariant-loop-i
invariant-loop-i l = record {
  same : l.kinds.items ≡ l.initial.kinds.items;
  passed : Passed (seen_row l.row) l.initial.kinds.items l.i;
}
