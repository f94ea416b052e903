-- A region has one division into cells and a rest.
use Rattle.std.proofs.lemmas.Bool.Decides.{nat_tests}
use Rattle.std.proofs.Common.{◌≡◌, ℕ, zero, suc, ◌%◌, ◌<◌, ◌≤◌, List, [], ◌∷◌, ◌++◌, length, take, drop, ◌∙◌, ap, refl, arith, All, append_assoc, length-append, length-drop, take-append-drop}
use Rattle.std.specs.List.{concat}
use Rattle.std.proofs.lemmas.List.{take_at, drop_at, append-nil, take-take, take_all, length-take-le}
use Rattle.std.proofs.lemmas.List.Elements.{All-nil, All-head, All-tail}
use Rattle.flash_format.specs.Entry.{Entry, absent, damaged, cell, entry}
use Rattle.flash_format.specs.Cut.{Cut, End, complete, tail, damage, ends, after, cut, IsCell, EndsAt, IsCut}
use Rattle.flash_format.proofs.CutSteps.{cell_span, cut_empty, cut_step, cut_cell}
use Rattle.flash_format.proofs.EntryLaws.{entry_alike}

cell_before : (c z : List ℕ) → IsCell c → entry (c ++ z) ≡ cell (length c)
cell_before c z is = grind (arith, entry_alike, length-append, take_all, take_at)

-- the prefix of a cell's length is the cell
front_cell : (x : List ℕ) (span : ℕ) → entry x ≡ cell span → span ≤ length x → IsCell (take span x)
front_cell x span is fits = grind (arith, nat_tests, length-take-le, entry_alike, take-take)

cut_before : (c z : List ℕ) → IsCell c → cut (c ++ z) ≡ after (c ∷ []) (cut z)
cut_before c z is =
    let long : 64 ≤ length c = (cell_span c (length c) is).positive in
    cut_cell (c ++ z) (length c) (omega (arith, long, length-append c z)) (cell_before c z is)
    ∙ ap (λ (l : List ℕ). after (l ∷ []) (cut (drop (length c) (c ++ z)))) (take_at c z (length c) refl)
    ∙ ap (λ (l : List ℕ). after (c ∷ []) (cut l)) (drop_at c z (length c) refl)

-- the end is the cut of the rest
cut_rest : (rest : List ℕ) (e : End) → EndsAt rest e → cut rest ≡ ends e
cut_rest rest complete at = cut_empty rest (ap (λ (l : List ℕ). length l) at)
cut_rest rest tail at = cut_step rest absent at.0 at.1
cut_rest rest (damage kind) at = cut_step rest (damaged kind) at.0 at.1

-- cells before any bytes
pub cut_joined : (cells : List (List ℕ)) (rest : List ℕ) → All IsCell cells → cut (concat cells ++ rest) ≡ after cells (cut rest)
cut_joined [] rest each = refl
cut_joined (c ∷ cells) rest each =
    ap (λ (l : List ℕ). cut l) (append_assoc c (concat cells) rest)
    ∙ cut_before c (concat cells ++ rest) (All-head IsCell c cells each)
    ∙ ap (λ (l : Cut). after (c ∷ []) l) (cut_joined cells rest (All-tail IsCell c cells each))

pub cut_unique : (x : List ℕ) (cells : List (List ℕ)) (rest : List ℕ) (e : End) → IsCut x cells rest e → cut x ≡ record { cells = cells; end = e }
cut_unique x cells rest e is = grind (arith, nat_tests, cut_joined, cut_rest, append-nil)

-- ---- every region has a cut

abbrev HasCut : List ℕ → Cut → Type 0
HasCut x k = (rest : List ℕ) × IsCut x k.cells rest k.end

behind_cell : (x : List ℕ) (span : ℕ) (k : Cut) → entry x ≡ cell span → span ≤ length x → HasCut (drop span x) k → HasCut x (after (take span x ∷ []) k)
behind_cell x span k is fits behind = grind (arith, nat_tests, take-append-drop, append_assoc, front_cell)

-- by the front, given a cut of the bytes after a cell
by_front : (x : List ℕ) → 0 < length x → length x % 64 ≡ 0 → ((span : ℕ) → 64 ≤ span → span % 64 ≡ 0 → span ≤ length x → HasCut (drop span x) (cut (drop span x))) → (e : Entry) → entry x ≡ e → HasCut x (cut x)
by_front x some whole behind absent is = rw (cut_step x absent some is) (x, record { whole = refl; each = All-nil IsCell; last = (some, is) })
by_front x some whole behind (damaged kind) is = rw (cut_step x (damaged kind) some is) (x, record { whole = refl; each = All-nil IsCell; last = (some, is) })
by_front x some whole behind (cell span) is =
    let s = cell_span x span is in
    let fits : span ≤ length x = s.inside whole in
    rw (cut_cell x span some is) (behind_cell x span (cut (drop span x)) is fits (behind span s.positive s.whole fits))

within : (bound : ℕ) (x : List ℕ) → length x ≤ bound → length x % 64 ≡ 0 → HasCut x (cut x)
within bound [] below whole = rw (cut_empty [] refl) ([], record { whole = refl; each = All-nil IsCell; last = refl })
within zero (b ∷ x) below whole = absurd (omega arith)
within (suc bound) (b ∷ x) below whole =
    by_front (b ∷ x) (omega arith) whole
    (λ span some multiple fits. within bound (drop span (b ∷ x)) (omega (arith, length-drop span (b ∷ x), below, some)) (omega (arith, length-drop span (b ∷ x), multiple)))
    (entry (b ∷ x)) refl

pub cut_exists : (x : List ℕ) → length x % 64 ≡ 0 → (rest : List ℕ) × IsCut x (cut x).cells rest (cut x).end
cut_exists x whole = within (length x) x (omega arith) whole
