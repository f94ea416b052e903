-- Tables for terminals: lines of cells in columns, and their colours. This project defines the
-- layout; the colours are those of ECMA-48.
use Rattle.std.specs.Prelude.{◌≡◌, ℕ, ◌+◌, ◌-◌, ◌≤◌, max, List, [], ◌∷◌, ◌++◌, length, map}
use Rattle.std.specs.Prelude.{drop, replicate, take, IfSome}
use Rattle.std.specs.Prelude.{Option, Some, None, fold, slice_get, if◌then◌else◌}
use Rattle.std.specs.Prelude.{Bool, true, false}
use Rattle.std.specs.List.{flat_map, sum_by}
use Rattle.std.specs.Borrow.{Bor}
use Rattle.std.specs.Option.{option_map_or}
use Rattle.std.specs.Str.{bytes_eq}
use lib.Chars.{codes}
use Rattle.flash_format.specs.Texts.{line_feed}
use Rattle.check_report.specs.declared.rows.form.Colours.{Colours}
use Rattle.check_report.specs.declared.rows.form.Colours.TheVariants as colours
use Rattle.check_report.specs.declared.rows.style.Style.{Style}
use Rattle.check_report.specs.declared.rows.style.Style.TheVariants as styles
use Rattle.check_report.specs.Fields.{Line, SeenField}

-- ---- cells

-- an empty text is shown as a dash
abbrev pub shown_text : List ℕ → List ℕ
shown_text [] = codes "-"
shown_text (c ∷ cs) = c ∷ cs

-- the cell of a field, if it has a text
abbrev pub field_cells : SeenField → List (List ℕ)
field_cells field = option_map_or (λ text. shown_text text ∷ []) field.value.text []

abbrev pub cells : Line → List (List ℕ)
cells line = line.head ∷ flat_map field_cells line.fields

-- the cells of a heading
abbrev pub heading_cells : List (Bor (List ℕ)) → List (List ℕ)
heading_cells heading = map (λ text. text.now) heading

-- ---- the widths of columns

-- the length of the first cell, if any
abbrev pub first_length : List (List ℕ) → ℕ
first_length cells = option_map_or length (slice_get cells 0) 0

-- the widths after another line: no column is narrower than its cell
abbrev pub widened : List ℕ → List (List ℕ) → List ℕ
widened [] cells = []
widened (w ∷ ws) cells = max w (first_length cells) ∷ widened ws (drop 1 cells)

abbrev pub widened_all : List ℕ → List Line → List ℕ
widened_all ws lines = fold (λ ws line. widened ws (cells line)) ws lines

-- columns that are as wide as their longest cells, with those of the heading
abbrev pub widths : List (List ℕ) → List Line → List ℕ
widths heading lines = widened_all (map length heading) lines

-- ---- lines

abbrev pub blanks : ℕ → List ℕ
blanks n = replicate n 0x20

-- the blanks after a cell of this length: the rest of the column's width, and two; one after the
-- columns
abbrev pub gap : Option ℕ → ℕ → List ℕ
gap (Some width) length = blanks (width - length) ++ codes "  "
gap None length = codes " "

-- the blanks between a cell and the next one, if any
abbrev pub gap_before : List (List ℕ) → Option ℕ → ℕ → List ℕ
gap_before [] width length = []
gap_before (next ∷ cells) width length = gap width length

-- all cells but the last are padded to the widths of their columns
abbrev pub in_columns : List ℕ → List (List ℕ) → List ℕ
in_columns ws [] = []
in_columns ws (cell ∷ cells) = cell
    ++ gap_before cells (slice_get ws 0) (length cell) ++ in_columns (drop 1 ws) cells

-- ---- colours

-- a control sequence of ECMA-48
abbrev pub escape : List ℕ
escape = 0x1b ∷ codes "["

-- bold and red, yellow, green
abbrev pub style_start : Style → List ℕ
style_start styles.Plain = []
style_start styles.Bad = escape ++ codes "1;31m"
style_start styles.Change = escape ++ codes "33m"
style_start styles.Good = escape ++ codes "32m"

-- the usual style again
abbrev pub style_end : Style → List ℕ
style_end styles.Plain = []
style_end style = escape ++ codes "0m"

abbrev pub painted : Colours → Style → List ℕ → List ℕ
painted colours.Off style text = text
painted colours.On style text = style_start style ++ text ++ style_end style

-- the style of a line, by its first word
abbrev pub style_of : List ℕ → Style
style_of head = if bytes_eq head (codes "bad") then styles.Bad
    else if bytes_eq head (codes "change") then styles.Change else styles.Plain

-- ---- tables

-- a line in columns of these widths
abbrev pub table_line : Colours → List ℕ → Line → List ℕ
table_line colours ws line =
    painted colours (style_of line.head) (in_columns ws (cells line)) ++ line_feed

-- a table without lines has no heading
abbrev pub has_lines : List Line → Bool
has_lines [] = false
has_lines (line ∷ lines) = true

-- the heading in columns of these widths, if lines follow
abbrev pub heading_if : Bool → List ℕ → List (List ℕ) → List ℕ
heading_if true ws heading = in_columns ws heading ++ line_feed
heading_if false ws heading = []

-- the heading, and all lines in its columns; cells after the columns follow after one blank
abbrev pub table : Colours → List (List ℕ) → List Line → List ℕ
table colours heading lines = let ws = widths heading lines in
    heading_if (has_lines lines) ws heading ++ flat_map (table_line colours ws) lines

-- ---- where columns begin

-- the place of a column in each line
abbrev pub column_start : List ℕ → ℕ → ℕ
column_start ws n = sum_by (λ width. width + 2) (take n ws)

-- each cell of a column, and the first one after the columns, begins at the place of its column
abbrev pub BeginsInColumns : List ℕ → List (List ℕ) → Type 0
BeginsInColumns ws cells = (n : ℕ) → n ≤ length ws → IfSome (slice_get cells n)
    (λ cell. take (length cell) (drop (column_start ws n) (in_columns ws cells)) ≡ cell)
