-- The rows of each verdict in a report for a terminal.
use Rattle.std.proofs.Common.{◌≡◌, ◌∙◌, List, [], ◌∷◌, ◌++◌, Bool, true, false, refl, ap, ap₂, append-nil}
use Rattle.std.specs.Prelude.{Some, filter, if◌then◌else◌}
use Rattle.std.specs.Str.{bytes_eq}
use Rattle.std.proofs.lemmas.List.Elements.{filter-append}
use Rattle.check_report.specs.declared.rows.row.Verdict.{Verdict}
use Rattle.check_report.specs.declared.rows.row.Verdict.TheVariants as verdicts
use Rattle.check_report.specs.Rows.{SeenRow, is_selected, report_rows, rows_by_verdict, selected, verdict_word}

-- ---- filtered rows

twice : (test : SeenRow → Bool) (rows : List SeenRow) → filter test (filter test rows) ≡ filter test rows
twice test [] = refl
twice test (row ∷ rows) = go (test row) refl (twice test rows)
  where
    go : (fits : Bool) → test row ≡ fits → filter test (filter test rows) ≡ filter test rows → filter test (filter test (row ∷ rows)) ≡ filter test (row ∷ rows)
    go true is later = rw (is, is) (ap (λ l. row ∷ l) later)
    go false is later = rw is later

none : (test other : SeenRow → Bool) → ((row : SeenRow) → other row ≡ true → test row ≡ false) → (rows : List SeenRow) → filter test (filter other rows) ≡ []
none test other differ [] = refl
none test other differ (row ∷ rows) = go (other row) refl (none test other differ rows)
  where
    go : (fits : Bool) → other row ≡ fits → filter test (filter other rows) ≡ [] → filter test (filter other (row ∷ rows)) ≡ []
    go true is later = rw (is, differ row is) later
    go false is later = rw is later

-- ---- verdicts

-- the verdicts have other words
abbrev Differ : Verdict → Verdict → Type 0
Differ v w = (found : Verdict) → bytes_eq (verdict_word w) (verdict_word found) ≡ true → bytes_eq (verdict_word v) (verdict_word found) ≡ false

bad_change : Differ verdicts.Bad verdicts.Change
bad_change verdicts.Bad is = absurd cc
bad_change verdicts.Change is = refl
bad_change verdicts.Remark is = refl

bad_remark : Differ verdicts.Bad verdicts.Remark
bad_remark verdicts.Bad is = absurd cc
bad_remark verdicts.Change is = refl
bad_remark verdicts.Remark is = refl

change_bad : Differ verdicts.Change verdicts.Bad
change_bad verdicts.Bad is = refl
change_bad verdicts.Change is = absurd cc
change_bad verdicts.Remark is = refl

change_remark : Differ verdicts.Change verdicts.Remark
change_remark verdicts.Bad is = refl
change_remark verdicts.Change is = absurd cc
change_remark verdicts.Remark is = refl

remark_bad : Differ verdicts.Remark verdicts.Bad
remark_bad verdicts.Bad is = refl
remark_bad verdicts.Change is = refl
remark_bad verdicts.Remark is = absurd cc

remark_change : Differ verdicts.Remark verdicts.Change
remark_change verdicts.Bad is = refl
remark_change verdicts.Change is = refl
remark_change verdicts.Remark is = absurd cc

same : (v : Verdict) (rows : List SeenRow) → selected (Some v) (selected (Some v) rows) ≡ selected (Some v) rows
same v rows = twice (is_selected (Some v)) rows

other : (v w : Verdict) → Differ v w → (rows : List SeenRow) → selected (Some v) (selected (Some w) rows) ≡ []
other v w differ rows = none (is_selected (Some v)) (is_selected (Some w)) (λ row. differ row.verdict) rows

-- ---- three parts

parts_of : (v : Verdict) (xs ys zs : List SeenRow) → selected (Some v) ((xs ++ ys) ++ zs) ≡ (selected (Some v) xs ++ selected (Some v) ys) ++ selected (Some v) zs
parts_of v xs ys zs = filter-append (is_selected (Some v)) (xs ++ ys) zs ∙ ap (λ l. l ++ selected (Some v) zs) (filter-append (is_selected (Some v)) xs ys)

-- the last part, which a report without -v lacks
last : (v : Verdict) → Differ v verdicts.Remark → (is_verbose : Bool) (all : List SeenRow) → selected (Some v) (if is_verbose then selected (Some verdicts.Remark) all else []) ≡ []
last v differ true all = other v verdicts.Remark differ all
last v differ false all = refl

pub bad_rows_shown : (is_verbose : Bool) (rows : List SeenRow) → selected (Some verdicts.Bad) (rows_by_verdict is_verbose rows) ≡ selected (Some verdicts.Bad) (report_rows is_verbose rows)
bad_rows_shown is_verbose rows =
    let all : List SeenRow = report_rows is_verbose rows in
    parts_of verdicts.Bad (selected (Some verdicts.Bad) all) (selected (Some verdicts.Change) all) _
    ∙ ap₂ (λ l m. l ++ m) (ap₂ (λ l m. l ++ m) (same verdicts.Bad all) (other verdicts.Bad verdicts.Change bad_change all)) (last verdicts.Bad bad_remark is_verbose all)
    ∙ append-nil _ ∙ append-nil _

pub changes_shown : (is_verbose : Bool) (rows : List SeenRow) → selected (Some verdicts.Change) (rows_by_verdict is_verbose rows) ≡ selected (Some verdicts.Change) (report_rows is_verbose rows)
changes_shown is_verbose rows =
    let all : List SeenRow = report_rows is_verbose rows in
    parts_of verdicts.Change (selected (Some verdicts.Bad) all) (selected (Some verdicts.Change) all) _
    ∙ ap₂ (λ l m. l ++ m) (ap₂ (λ l m. l ++ m) (other verdicts.Change verdicts.Bad change_bad all) (same verdicts.Change all)) (last verdicts.Change change_remark is_verbose all)
    ∙ append-nil _

-- no remark among the first two parts
first_parts : (all : List SeenRow) → selected (Some verdicts.Remark) (selected (Some verdicts.Bad) all) ++ selected (Some verdicts.Remark) (selected (Some verdicts.Change) all) ≡ []
first_parts all = ap₂ (λ l m. l ++ m) (other verdicts.Remark verdicts.Bad remark_bad all) (other verdicts.Remark verdicts.Change remark_change all)

pub remarks_shown : (rows : List SeenRow) → selected (Some verdicts.Remark) (rows_by_verdict true rows) ≡ selected (Some verdicts.Remark) (report_rows true rows)
remarks_shown rows =
    let all : List SeenRow = report_rows true rows in
    parts_of verdicts.Remark (selected (Some verdicts.Bad) all) (selected (Some verdicts.Change) all) (selected (Some verdicts.Remark) all)
    ∙ ap₂ (λ l m. l ++ m) (first_parts all) (same verdicts.Remark all)

pub remarks_hidden : (rows : List SeenRow) → selected (Some verdicts.Remark) (rows_by_verdict false rows) ≡ []
remarks_hidden rows =
    let all : List SeenRow = report_rows false rows in
    parts_of verdicts.Remark (selected (Some verdicts.Bad) all) (selected (Some verdicts.Change) all) [] ∙ append-nil _ ∙ first_parts all
