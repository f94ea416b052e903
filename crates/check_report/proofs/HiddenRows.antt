-- A hidden row is like a shown row.
use Rattle.std.proofs.Common.{◌≡◌, ◌<◌, nat_lt, List, [], ◌∷◌, ◌++◌, Bool, true, false, refl, ap, arith}
use Rattle.std.specs.Prelude.{◌||◌, count_by, if◌then◌else◌}
use Rattle.std.specs.List.{list_any}
use Rattle.std.specs.Str.{bytes_eq}
use Rattle.std.proofs.lemmas.Bool.Decides.{nat_tests}
use Rattle.std.proofs.lemmas.List.Folds.{list_any-append}
use Rattle.std.proofs.lemmas.List.Sums.{sum_by-cons}
use Rattle.check_report.specs.declared.rows.row.Verdict.TheVariants.{Bad}
use Rattle.check_report.specs.Rows.{SeenRow, has_verdict, is_like, rows_by, verdict_word}
use Rattle.check_findings.specs.Lists.{only_if}
use Rattle.check_report.proofs.RowCounts.{same_verdict}

bad_before : (before : List SeenRow) (row : SeenRow) → 0 < count_by (is_like row) before → has_verdict Bad row ≡ true → list_any (has_verdict Bad) before ≡ true
bad_before [] row some bad = absurd (grind arith)
bad_before (other ∷ before) row some bad = go (is_like row other) refl (bad_before before row)
  where
    go : (b : Bool) → is_like row other ≡ b → (0 < count_by (is_like row) before → has_verdict Bad row ≡ true → list_any (has_verdict Bad) before ≡ true) → list_any (has_verdict Bad) (other ∷ before) ≡ true
    go true is later = grind (arith, ap (bytes_eq (verdict_word Bad)) (same_verdict row other is), bad)
    go false is later =
        let less : 0 < count_by (is_like row) before = omega (arith, rw (sum_by-cons (λ t. if is_like row t then 1 else 0) other before, is) at some) in grind (arith, later less bad)

pub bad_after : (before rows : List SeenRow)
    → (list_any (has_verdict Bad) before || list_any (has_verdict Bad) (rows_by (λ n. nat_lt n 16) before rows)) ≡ (list_any (has_verdict Bad) before || list_any (has_verdict Bad) rows)
bad_after before [] = refl
bad_after before (row ∷ rows) = go (nat_lt (count_by (is_like row) before) 16) refl (rw (list_any-append (has_verdict Bad) before (row ∷ [])) at (bad_after (before ++ row ∷ []) rows))
  where
    later : List SeenRow
    later = rows_by (λ n. nat_lt n 16) (before ++ row ∷ []) rows

    go : (b : Bool) → nat_lt (count_by (is_like row) before) 16 ≡ b
        → ((list_any (has_verdict Bad) before || (has_verdict Bad row || false)) || list_any (has_verdict Bad) later) ≡ ((list_any (has_verdict Bad) before || (has_verdict Bad row || false)) || list_any (has_verdict Bad) rows)
        → (list_any (has_verdict Bad) before || list_any (has_verdict Bad) (only_if b row ++ later)) ≡ (list_any (has_verdict Bad) before || (has_verdict Bad row || list_any (has_verdict Bad) rows))
    go true is all = grind (arith, all)
    go false is all = grind (arith, all, bad_before before row (grind (arith, nat_tests, is)))
