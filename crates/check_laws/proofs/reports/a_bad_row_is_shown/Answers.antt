use Rattle.std.proofs.Common.{[], ◌∷◌, ◌++◌, List, false, replicate}
use Rattle.check_report.specs.Rows.{SeenRow, row, shown_rows}
use Rattle.check_report.specs.declared.rows.row.Verdict.TheVariants.{Bad, Remark}
use Rattle.check_laws.proofs.BadRows.{a_row_is_bad, no_row_is_bad}
use Rattle.check_laws.proofs.reports.a_bad_row_is_shown.Goals as goal

abbrev remarks : List SeenRow
remarks = replicate 20 (row Remark "tail" "unused tail")

pub returns-clause-bad : goal.returns-clause-bad
returns-clause-bad c = a_row_is_bad (shown_rows false (remarks ++ row Bad "no-cbfs" "no CBFS" ∷ [])) (c.rows_tell_what_is_bad.ensures.limits (remarks ++ row Bad "no-cbfs" "no CBFS" ∷ []))

pub returns-clause-remarks : goal.returns-clause-remarks
returns-clause-remarks c = no_row_is_bad (shown_rows false remarks) (c.rows_tell_what_is_bad.ensures.limits remarks)
