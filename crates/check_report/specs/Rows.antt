-- Rows, their lines and their limits.
use Rattle.std.specs.Prelude.{ℕ, ◌-◌, ◌==◌, nat_lt, List, [], ◌∷◌, ◌++◌, Bool, true, false, ◌&&◌, ◌||◌}
use Rattle.std.specs.Prelude.{count_by, filter, map, if◌then◌else◌, Option, Some, None}
use Rattle.flash_format.specs.Flashmap.{text_of}
use Rattle.check_findings.specs.declared.areas.NumberedArea.{NumberedArea}
use Rattle.std.specs.List.{flat_map, list_any}
use Rattle.std.specs.Fmt.{decimal}
use Rattle.std.specs.Str.{bytes_eq}
use Rattle.json.specs.Json.{string}
use Prim.Native.String.{String}
use lib.Chars.{codes}
use Rattle.check_report.specs.declared.rows.field.Value.TheVariants.{Absent, Dash, Count, Offset}
pub use Rattle.check_findings.specs.ImageFindings.{names_in}
use Rattle.check_findings.specs.Lists.{only_if}
use Rattle.check_report.specs.declared.rows.kinds.Kind.{Kind}
use Rattle.check_report.specs.declared.rows.row.Verdict.{Verdict}
use Rattle.check_report.specs.declared.rows.row.Verdict.TheVariants as verdicts
use Rattle.check_report.specs.declared.rows.row.Row.{Row}
use Rattle.check_report.specs.declared.rows.writer.Selection.{Selection}
use Rattle.check_report.specs.declared.rows.kinds.Counts.{Counts}
use Rattle.check_report.specs.declared.rows.conclusion.Conclusion.{Conclusion}
use Rattle.check_report.specs.declared.rows.conclusion.Subject.{Subject}
use Rattle.check_report.specs.declared.rows.conclusion.Subject.TheVariants as subjects
use Rattle.check_report.specs.Fields.{Line, SeenField, SeenValue, field, json_value, name_value}
use Rattle.check_report.specs.Fields.{seen_value, text_value}

abbrev pub verdict_word : Verdict → List ℕ
verdict_word verdicts.Bad = codes "bad"
verdict_word verdicts.Remark = codes "remark"
verdict_word verdicts.Change = codes "change"

-- a row, with its values as both forms print them
pub record SeenRow : Type 0 where
  pub verdict : Verdict
  pub code : List ℕ
  pub area : SeenValue
  pub component : SeenValue
  pub position : SeenValue
  pub what : List ℕ
  pub detail : SeenValue
  pub other : SeenValue

abbrev pub seen_row : Row → SeenRow
seen_row row = record {
  verdict = row.verdict;
  code = row.code.now;
  area = seen_value row.area;
  component = seen_value row.component;
  position = seen_value row.position;
  what = row.what.now;
  detail = seen_value row.detail;
  other = seen_value row.other;
}

-- a row of the whole image: without area, component and position
abbrev pub row_of : Verdict → List ℕ → List ℕ → SeenRow
row_of verdict code what = record {
  verdict = verdict;
  code = code;
  area = seen_value Dash;
  component = seen_value Dash;
  position = seen_value Dash;
  what = what;
  detail = seen_value Absent;
  other = seen_value Absent;
}

abbrev pub row : Verdict → String → String → SeenRow
row verdict code what = row_of verdict (codes code) (codes what)

-- ---- the row with another value of a field

abbrev pub row_at : ℕ → SeenRow → SeenRow
row_at position row = record row { position = seen_value (Offset position) }

abbrev pub in_area : List ℕ → SeenRow → SeenRow
in_area name row = record row { area = name_value name }

abbrev pub area_name : NumberedArea → List ℕ
area_name a = text_of a.area.name

-- a row of an area, at its start
abbrev pub of_area : NumberedArea → SeenRow → SeenRow
of_area a row = row_at a.area.offset (in_area (area_name a) row)

abbrev pub of_component : List ℕ → List ℕ → SeenRow → SeenRow
of_component area name row = record row { area = name_value area; component = name_value name }

abbrev pub at_component : List ℕ → ℕ → List ℕ → SeenRow → SeenRow
at_component area at name row = row_at at (of_component area name row)

-- with a decimal number
abbrev pub with_count : ℕ → SeenRow → SeenRow
with_count n row = record row { detail = seen_value (Count n) }

-- with a hexadecimal number
abbrev pub with_number : ℕ → SeenRow → SeenRow
with_number n row = record row { detail = seen_value (Offset n) }

-- with the name of a second area
abbrev pub with_other : NumberedArea → SeenRow → SeenRow
with_other a row = record row { other = name_value (area_name a) }

-- ---- the line of a row

abbrev pub row_fields : SeenRow → List SeenField
row_fields row =
    field "verdict" (json_value (string (verdict_word row.verdict)))
    ∷ field "code" (json_value (string row.code))
    ∷ field "area" row.area
    ∷ field "component" row.component
    ∷ field "position" row.position
    ∷ field "what" (text_value row.what)
    ∷ field "value" row.detail
    ∷ field "other" row.other
    ∷ []

abbrev pub row_line : SeenRow → Line
row_line row = record { head = verdict_word row.verdict; fields = row_fields row }

-- ---- counts

abbrev pub has_verdict : Verdict → SeenRow → Bool
has_verdict verdict row = bytes_eq (verdict_word verdict) (verdict_word row.verdict)

abbrev pub has_bad : List SeenRow → Bool
has_bad rows = list_any (has_verdict verdicts.Bad) rows

abbrev pub counts_of : List SeenRow → Counts
counts_of rows = let n = λ (verdict : Verdict). count_by (has_verdict verdict) rows in
    record { bad = n verdicts.Bad; remarks = n verdicts.Remark; changes = n verdicts.Change }

abbrev pub conclusion_of : Subject → List SeenRow → Conclusion
conclusion_of subject rows = record { subject = subject; counts = counts_of rows }

-- the conclusion about the image, or about flashing over the old image, without or with bad rows
abbrev pub in_words : Subject → Bool → List ℕ
in_words subjects.Image true = codes "sound"
in_words subjects.Image false = codes "not sound"
in_words subjects.Flashing true = codes "may be flashed"
in_words subjects.Flashing false = codes "must not be flashed"

abbrev pub verdict_text : Conclusion → List ℕ
verdict_text c = in_words c.subject (c.counts.bad == 0)

-- the line after all rows
unfoldable pub summary : Conclusion → List ℕ
summary c = verdict_text c ++ codes ": " ++ decimal c.counts.bad ++ codes " bad, "
    ++ decimal c.counts.remarks ++ codes " remarks, " ++ decimal c.counts.changes
    ++ codes " changes"

-- ---- at most 16 rows of a kind, which is a verdict and a code

-- the rows have the same verdict and the same code
abbrev pub is_like : SeenRow → SeenRow → Bool
is_like row other = has_verdict row.verdict other && bytes_eq row.code other.code

-- the rows for which the number of earlier rows of their kind fits, after the rows before
abbrev pub rows_by : (ℕ → Bool) → List SeenRow → List SeenRow → List SeenRow
rows_by fits before [] = []
rows_by fits before (row ∷ rows) =
    only_if (fits (count_by (is_like row) before)) row ++ rows_by fits (before ++ row ∷ []) rows

-- all rows, or at most 16 of a kind
abbrev pub shown_rows : Bool → List SeenRow → List SeenRow
shown_rows is_verbose rows = rows_by (λ n. is_verbose || nat_lt n 16) [] rows

-- a kind, and the number of its rows
abbrev pub SeenKind : Type 0
SeenKind = record { verdict : Verdict; code : List ℕ; count : ℕ }

abbrev pub seen_kind : Kind → SeenKind
seen_kind kind = record { verdict = kind.verdict; code = kind.code.now; count = kind.count }

abbrev pub is_of : SeenKind → SeenRow → Bool
is_of kind row = has_verdict kind.verdict row && bytes_eq kind.code row.code

-- the kind of a row, with the number of its rows
abbrev pub kind_in : List SeenRow → SeenRow → SeenKind
kind_in rows r = record { verdict = r.verdict; code = r.code; count = count_by (is_like r) rows }

-- the kinds, in the order of their first rows
abbrev pub kinds_of : List SeenRow → List SeenKind
kinds_of rows = map (kind_in rows) (rows_by (λ n. n == 0) [] rows)

-- the row for the hidden rows of a kind
abbrev pub more_of : SeenKind → List SeenRow
more_of kind = only_if (nat_lt 16 kind.count)
    (with_count (kind.count - 16) (row_of kind.verdict kind.code (codes "more of these")))

-- the rows of a report: the shown rows, and a row for the hidden rows of each kind
abbrev pub report_rows : Bool → List SeenRow → List SeenRow
report_rows is_verbose rows =
    shown_rows is_verbose rows ++ flat_map more_of (if is_verbose then [] else kinds_of rows)

abbrev pub report_lines : Bool → List SeenRow → List Line
report_lines is_verbose rows = map row_line (report_rows is_verbose rows)

-- ---- rows by verdict

-- the row has the selected verdict, if any verdict is selected
abbrev pub is_selected : Option Verdict → SeenRow → Bool
is_selected None row = true
is_selected (Some verdict) row = has_verdict verdict row

abbrev pub selected : Option Verdict → List SeenRow → List SeenRow
selected only rows = filter (is_selected only) rows

-- the lines of the selected rows that are shown
abbrev pub shown_lines : Selection → List SeenRow → List Line
shown_lines s rows = map row_line (selected s.only (shown_rows s.is_verbose rows))

-- the lines of the selected rows of a report
abbrev pub selected_lines : Selection → List SeenRow → List Line
selected_lines s rows = map row_line (selected s.only (report_rows s.is_verbose rows))

-- the rows of a report by verdict: bad rows, followed by changes, and on request by remarks
abbrev pub rows_by_verdict : Bool → List SeenRow → List SeenRow
rows_by_verdict is_verbose rows = let all = report_rows is_verbose rows in
    (selected (Some verdicts.Bad) all ++ selected (Some verdicts.Change) all)
    ++ (if is_verbose then selected (Some verdicts.Remark) all else [])
