-- The widths and the cells of a table's lines, column by column.
use Rattle.std.proofs.Common.{◌≡◌, ◌∙◌, ℕ, zero, suc, ◌+◌, ◌<◌, ◌≤◌, length, take, drop, get_or, set, List, [], ◌∷◌, ◌++◌, map, refl, ap, ap₂, sym, append_assoc, append-nil, arith, drop-drop, drop-set-lt, get_or-set_same, length-set}
use Rattle.std.specs.Prelude.{max, slice_get}
use Rattle.std.proofs.lemmas.List.{drop-map, drop_all, drop_more, take-set, take_all, take_more}
use Rattle.check_report.specs.Tables.{first_length, gap_before, in_columns, widened}

pub slice_get-drop : {X : Type 0} (xs : List X) (i : ℕ) → slice_get (drop i xs) 0 ≡ slice_get xs i
slice_get-drop xs zero = refl
slice_get-drop [] (suc i) = refl
slice_get-drop (x ∷ xs) (suc i) = slice_get-drop xs i

-- the length of a cell by its number
pub length_found : {C : Type 0} (bytes : C → List ℕ) (cells : List C) (i : ℕ) (d : C) → i < length cells → first_length (drop i (map bytes cells)) ≡ length (bytes (get_or cells i d))
length_found bytes cells i d lt = ap first_length (drop-map bytes i cells ∙ ap (map bytes) (drop_more cells i d lt))

pub length_past : {C : Type 0} (bytes : C → List ℕ) (cells : List C) (i : ℕ) → length cells ≤ i → first_length (drop i (map bytes cells)) ≡ 0
length_past bytes cells i all = ap first_length (drop-map bytes i cells ∙ ap (map bytes) (drop_all i cells all))

-- ---- widths

-- the first i widths are final, and the others are to be widened
pub record Widening (ws : List ℕ) (cells : List (List ℕ)) (i : ℕ) (now : List ℕ) : Type 0 where
  pub same : length now ≡ length ws
  pub rest : take i now ++ widened (drop i now) (drop i cells) ≡ widened ws cells

pub widening_start : (ws : List ℕ) (cells : List (List ℕ)) → Widening ws cells 0 ws
widening_start ws cells = record { same = refl; rest = refl }

pub widening_more : (ws : List ℕ) (cells : List (List ℕ)) (i : ℕ) (now : List ℕ) (v d : ℕ) → i < length now → v ≡ max (get_or now i d) (first_length (drop i cells))
    → Widening ws cells i now → Widening ws cells (i + 1) (set now i v)
widening_more ws cells i now v d lt is w =
    let here : take (i + 1) (set now i v) ≡ take i now ++ v ∷ [] =
    take_more (set now i v) i d (omega (arith, length-set now i v, lt)) ∙ ap₂ (λ l x. l ++ x ∷ []) (take-set now i v) (get_or-set_same now i v d lt) in
    let later : v ∷ widened (drop (i + 1) now) (drop (i + 1) cells) ≡ widened (drop i now) (drop i cells) =
    ap₂ (λ x l. x ∷ l) is (ap (widened (drop (i + 1) now)) (sym (drop-drop 1 i cells))) ∙ ap (λ l. widened l (drop i cells)) (sym (drop_more now i d lt)) in
    record {
      same = length-set now i v ∙ w.same;
      rest = ap₂ (λ l m. l ++ widened m (drop (i + 1) cells)) here (drop-set-lt (i + 1) now i v (omega arith))
          ∙ append_assoc (take i now) (v ∷ []) _ ∙ ap (λ l. take i now ++ l) later ∙ w.rest;
    }

pub widening_end : (ws : List ℕ) (cells : List (List ℕ)) (i : ℕ) (now : List ℕ) → length now ≤ i → Widening ws cells i now → now ≡ widened ws cells
widening_end ws cells i now all w = sym (append-nil now) ∙ sym (ap₂ (λ l m. l ++ widened m (drop i cells)) (take_all i now all) (drop_all i now all)) ∙ w.rest

-- ---- cells

-- the next cell, with its gap
pub laid_more : {C : Type 0} (bytes : C → List ℕ) (ws : List ℕ) (cells : List C) (i : ℕ) (d : C) (text all : List ℕ) → i < length cells
    → text ++ in_columns (drop i ws) (drop i (map bytes cells)) ≡ all
    → let cell = bytes (get_or cells i d) in
    ((text ++ cell) ++ gap_before (map bytes (drop (i + 1) cells)) (slice_get ws i) (length cell)) ++ in_columns (drop (i + 1) ws) (drop (i + 1) (map bytes cells)) ≡ all
laid_more bytes ws cells i d text all lt so_far =
    let cell : List ℕ = bytes (get_or cells i d) in
    let rest : List (List ℕ) = map bytes (drop (i + 1) cells) in
    let next : drop i (map bytes cells) ≡ cell ∷ rest = drop-map bytes i cells ∙ ap (map bytes) (drop_more cells i d lt) in
    let here : in_columns (drop i ws) (cell ∷ rest) ≡ (cell ++ gap_before rest (slice_get ws i) (length cell)) ++ in_columns (drop (i + 1) ws) rest =
    ap₂ (λ w l. (cell ++ gap_before rest w (length cell)) ++ in_columns l rest) (slice_get-drop ws i) (drop-drop 1 i ws) in
    ap (λ l. ((text ++ cell) ++ gap_before rest (slice_get ws i) (length cell)) ++ in_columns (drop (i + 1) ws) l) (drop-map bytes (i + 1) cells)
    ∙ regroup text cell (gap_before rest (slice_get ws i) (length cell)) _ ∙ ap (λ l. text ++ l) (sym here) ∙ ap (λ l. text ++ in_columns (drop i ws) l) (sym next) ∙ so_far
  where
    regroup : (a b c e : List ℕ) → ((a ++ b) ++ c) ++ e ≡ a ++ ((b ++ c) ++ e)
    regroup a b c e = simp append_assoc

pub laid_all : (ws : List ℕ) (cells : List (List ℕ)) (i : ℕ) (text all : List ℕ) → length cells ≤ i → text ++ in_columns (drop i ws) (drop i cells) ≡ all → text ≡ all
laid_all ws cells i text all end so_far = sym (append-nil text) ∙ sym (ap (λ l. text ++ in_columns (drop i ws) l) (drop_all i cells end)) ∙ so_far
