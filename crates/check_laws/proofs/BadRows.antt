-- Rows with the word `bad`.
use Rattle.std.proofs.Common.{◌≡◌, List, true, false, arith, refl, sym, ◌∙◌}
use Rattle.std.specs.List.{Any}
use lib.Chars.{codes}
use Rattle.std.proofs.lemmas.Bool.{false≢true}
use Rattle.std.proofs.lemmas.List.Folds.{Any-from_list_any, list_any-from_Any}
use Rattle.std.proofs.lemmas.Slice.Eq.{bytes_eq-Decides}
use Rattle.check_report.specs.Rows.{SeenRow, has_bad, has_verdict, verdict_word}
use Rattle.check_report.specs.declared.rows.row.Verdict.TheVariants.{Bad}

abbrev pub IsBadRow : SeenRow → Type 0
IsBadRow row = verdict_word row.verdict ≡ codes "bad"

bad_word : (row : SeenRow) → has_verdict Bad row ≡ true → IsBadRow row
bad_word row is = grind (arith, is, bytes_eq-Decides (codes "bad") (verdict_word row.verdict))

word_bad : (row : SeenRow) → IsBadRow row → has_verdict Bad row ≡ true
word_bad row is = rw is refl

pub a_row_is_bad : (rows : List SeenRow) → has_bad rows ≡ true → Any IsBadRow rows
a_row_is_bad rows is = let some = Any-from_list_any (has_verdict Bad) rows is in (some.0, some.1, some.2, some.3, bad_word some.1 some.4)

pub no_row_is_bad : (rows : List SeenRow) → has_bad rows ≡ false → Any IsBadRow rows → ⊥
no_row_is_bad rows is some = false≢true (sym is ∙ list_any-from_Any (has_verdict Bad) rows (some.0, some.1, some.2, some.3, word_bad some.1 some.4))
