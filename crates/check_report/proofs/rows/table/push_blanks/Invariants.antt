use Rattle.std.proofs.Common.{◌≡◌, ◌++◌}
use Rattle.check_report.specs.Tables.{blanks}
use Rattle.check_report.proofs.rows.table.push_blanks.Given as goal

abbrev pub invariant-loop : goal.invariant-loop
invariant-loop l = l.text.items ≡ l.initial.text.items ++ blanks l.counter
