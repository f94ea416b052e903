-- The columns of a table are aligned.
use Rattle.std.proofs.Common.{◌≡◌, ◌∙◌, ℕ, zero, suc, ◌+◌, ◌-◌, ◌≤◌, length, take, drop, List, [], ◌∷◌, ◌++◌, refl, ap, sym, append_assoc, arith, length-append, map}
use Rattle.std.specs.Prelude.{slice_get, Option, Some, None, IfSome, unwrap_or}
use Rattle.std.specs.List.{All, AllByRecursion}
use Rattle.std.proofs.lemmas.List.{take_at, length-replicate}
use Rattle.std.proofs.lemmas.List.Elements.{All-from_recursion}
use Rattle.std.proofs.lemmas.List.Sums.{sum_by-cons}
use lib.Seq.{drop-append-add}
use lib.Chars.{codes}
use Rattle.check_report.specs.Fields.{Line}
use Rattle.check_report.specs.Tables.{BeginsInColumns, blanks, cells, column_start, first_length, gap_before, in_columns, widened, widened_all, widths}

-- no cell is longer than its column is wide
abbrev Fits : List ℕ → List (List ℕ) → Type 0
Fits [] cells = Unit {0}
Fits (w ∷ ws) cells = (first_length cells ≤ w) × Fits ws (drop 1 cells)

widened_fits : (ws : List ℕ) (cells : List (List ℕ)) → Fits (widened ws cells) cells
widened_fits [] cells = tt
widened_fits (w ∷ ws) cells = (omega arith, widened_fits ws (drop 1 cells))

still_fits : (ws : List ℕ) (cells other : List (List ℕ)) → Fits ws cells → Fits (widened ws other) cells
still_fits [] cells other fits = tt
still_fits (w ∷ ws) cells other fits = (omega (arith, fits.0), still_fits ws (drop 1 cells) (drop 1 other) fits.1)

all_still_fit : (ws : List ℕ) (cs : List (List ℕ)) (lines : List Line) → Fits ws cs → Fits (widened_all ws lines) cs
all_still_fit ws cs [] fits = fits
all_still_fit ws cs (line ∷ lines) fits = all_still_fit (widened ws (cells line)) cs lines (still_fits ws cs (cells line) fits)

each_fits : (ws : List ℕ) (lines : List Line) → AllByRecursion (λ line. Fits (widened_all ws lines) (cells line)) lines
each_fits ws [] = tt
each_fits ws (line ∷ lines) = (all_still_fit (widened ws (cells line)) (cells line) lines (widened_fits ws (cells line)), each_fits (widened ws (cells line)) lines)

-- a cell with the blanks after it
front : (w : ℕ) (c : List ℕ) → length c ≤ w → length (c ++ (blanks (w - length c) ++ codes "  ")) ≡ w + 2
front w c le = omega (arith, length-append c (blanks (w - length c) ++ codes "  "), length-append (blanks (w - length c)) (codes "  "), length-replicate {A = ℕ} (w - length c) 0x20)

begins : (ws : List ℕ) (cs : List (List ℕ)) (n : ℕ) (cell : List ℕ) → Fits ws cs → n ≤ length ws → slice_get cs n ≡ Some cell → take (length cell) (drop (column_start ws n) (in_columns ws cs)) ≡ cell
begins ws [] n cell fits le is = absurd (grind arith)
begins ws (c ∷ cs) zero cell fits le is =
    let same : c ≡ cell = ap (λ o. unwrap_or o []) is in
    rw (← same) (ap (take (length c)) (append_assoc c (gap_before cs (slice_get ws 0) (length c)) (in_columns (drop 1 ws) cs)) ∙ take_at c _ (length c) refl)
begins [] (c ∷ cs) (suc m) cell fits le is = absurd (omega (arith, le))
begins (w ∷ ws) (c ∷ []) (suc m) cell fits le is = absurd (grind arith)
begins (w ∷ ws) (c ∷ (d ∷ cs)) (suc m) cell fits le is =
    let first : List ℕ = c ++ (blanks (w - length c) ++ codes "  ") in
    let start : column_start (w ∷ ws) (suc m) ≡ length first + column_start ws m = sum_by-cons (λ width. width + 2) w (take m ws) ∙ ap (λ n. n + column_start ws m) (sym (front w c fits.0)) in
    ap (λ n. take (length cell) (drop n (first ++ in_columns ws (d ∷ cs)))) start ∙ ap (take (length cell)) (drop-append-add first (in_columns ws (d ∷ cs)) (column_start ws m))
    ∙ begins ws (d ∷ cs) m cell fits.1 (omega (arith, le)) is

for_some : {X : Type 0} (o : Option X) (P : X → Type 0) → ((x : X) → o ≡ Some x → P x) → IfSome o P
for_some None P each = tt
for_some (Some x) P each = each x refl

all_begin : (ws : List ℕ) (lines : List Line) → AllByRecursion (λ line. Fits ws (cells line)) lines → AllByRecursion (λ line. BeginsInColumns ws (cells line)) lines
all_begin ws [] fit = tt
all_begin ws (line ∷ lines) fit = (λ n le. for_some (slice_get (cells line) n) _ (λ cell is. begins ws (cells line) n cell fit.0 le is), all_begin ws lines fit.1)

pub aligned : (heading : List (List ℕ)) (lines : List Line) → All (λ line. BeginsInColumns (widths heading lines) (cells line)) lines
aligned heading lines = All-from_recursion (λ line. BeginsInColumns (widths heading lines) (cells line)) lines (all_begin (widths heading lines) lines (each_fits (map length heading) lines))

-- a heading fits into columns of its own widths
own_fits : (heading : List (List ℕ)) → Fits (map length heading) heading
own_fits [] = tt
own_fits (cell ∷ cells) = (omega arith, own_fits cells)

pub heading_aligned : (heading : List (List ℕ)) (lines : List Line) → BeginsInColumns (widths heading lines) heading
heading_aligned heading lines = λ n le. for_some (slice_get heading n) _
    (λ cell is. begins (widths heading lines) heading n cell (all_still_fit (map length heading) heading lines (own_fits heading)) le is)
