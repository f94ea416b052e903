-- A table adds its rows to clap's command: f adds a row, and g all rows.
use Rattle.std.proofs.Common.{◌≡◌, ◌<◌, ◌-◌, ℕ, List, [], ◌∷◌, length, take, drop, get_or, ap, sym, ◌∙◌, arith}
use Rattle.std.proofs.lemmas.List.{take_all}
use Rattle.clap.specs.Words.{App, new_app, with_subcommand}
use Rattle.std.specs.Prelude.{fold}
use Rattle.std.specs.Borrow.{Bor}
use Rattle.cbfs_line.specs.declared.words.TableOption.{TableOption}
use Rattle.cbfs_line.specs.Subcommands.{with_options}

-- a subcommand's name and options
abbrev pub TableRow : Type 0
TableRow = Bor (List ℕ) × Bor (List TableOption)

abbrev pub with_row : App → TableRow → App
with_row a row = with_subcommand a (with_options (new_app row.0.now) row.1.now).top

abbrev pub with_rows : App → List TableRow → App
with_rows app rows = fold with_row app rows

-- a row, and then the rest
pub one_more : {R : Type 0} (f : App → R → App) (g : App → List R → App) → ((a : App) (row : R) (rows : List R) → g (f a row) rows ≡ g a (row ∷ rows))
    → (rows : List R) (a b : App) (d : R) → 0 < length rows → b ≡ f a (get_or rows 0 d) → g b (take (length rows - 1) (drop 1 rows)) ≡ g a rows
one_more f g step [] a b d some is = absurd (omega arith)
one_more {R} f g step (row ∷ rows) a b d some is =
    ap (λ (rest : List R). g b rest) (take_all _ rows (omega arith)) ∙ (ap (λ (x : App). g x rows) is ∙ step a row rows)

-- no row remains
pub ended : {R : Type 0} (g : App → List R → App) → ((a : App) → g a [] ≡ a) → (rows : List R) (a b : App) → length rows < 1 → g a rows ≡ b → a ≡ b
ended g none [] a b few is = sym (none a) ∙ is
ended g none (row ∷ rows) a b few is = absurd (omega arith)
