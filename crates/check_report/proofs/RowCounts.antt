-- The kinds, counts and shown rows after another row.
use Rattle.std.proofs.Common.{◌≡◌, ◌∙◌, ℕ, ◌+◌, ◌<◌, ◌≤◌, length, take, drop, get_or, set, nat_lt, List, [], ◌∷◌, ◌++◌, map, append-nil, add-one, Bool, true, false, refl, ap, ap₂, sym, arith, append_assoc, take-append-drop}
use Rattle.std.specs.Prelude.{◌&&◌, ◌||◌, ◌==◌, count_by, if◌then◌else◌}
use Rattle.std.specs.List.{list_any}
use Rattle.std.specs.Str.{bytes_eq}
use Rattle.std.proofs.lemmas.Bool.Decides.{nat_tests}
use Rattle.std.proofs.lemmas.List.{drop-set, drop_all, map-append, take-set, take_all, take_more}
use Rattle.std.proofs.lemmas.List.Sums.{sum_by-append, sum_by-cons}
use Rattle.std.proofs.lemmas.Slice.Eq.{bytes_eq-Decides}
use Rattle.std.proofs.Math.Seq.{drop-cons}
use Rattle.check_report.specs.declared.rows.kinds.Kind.{Kind}
use Rattle.check_report.specs.Rows.{SeenKind, SeenRow, is_like, is_of, kind_in, kinds_of, rows_by, seen_kind, verdict_word}
use Rattle.check_findings.specs.Lists.{only_if}

-- the number of rows of the row's kind
abbrev pub count_in : List SeenKind → SeenRow → ℕ
count_in [] row = 0
count_in (kind ∷ kinds) row = if is_of kind row then kind.count else count_in kinds row

-- the kinds after another row
abbrev pub counted : List SeenKind → SeenRow → List SeenKind
counted [] row = record { verdict = row.verdict; code = row.code; count = 1 } ∷ []
counted (kind ∷ kinds) row = if is_of kind row then record { verdict = kind.verdict; code = kind.code; count = kind.count + 1 } ∷ kinds else (kind ∷ counted kinds row)

-- the first i kinds aren't the row's
pub record Passed (row : SeenRow) (ks : List Kind) (i : ℕ) : Type 0 where
  pub count : count_in (map seen_kind ks) row ≡ count_in (map seen_kind (drop i ks)) row
  pub kinds : counted (map seen_kind ks) row ≡ map seen_kind (take i ks) ++ counted (map seen_kind (drop i ks)) row

rest : (ks : List Kind) (i : ℕ) (d : Kind) → i < length ks → drop i ks ≡ get_or ks i d ∷ drop (i + 1) ks
rest ks i d lt = rw (add-one, drop-cons ks i d) refl

pub passed_more : (row : SeenRow) (ks : List Kind) (i : ℕ) (k : Kind) → i < length ks → k ≡ get_or ks i k → is_of (seen_kind k) row ≡ false
    → Passed row ks i → Passed row ks (i + 1)
passed_more row ks i k lt here other p =
    let next : drop i ks ≡ k ∷ drop (i + 1) ks = rest ks i k lt ∙ ap (λ d. d ∷ drop (i + 1) ks) (sym here) in
    record {
      count = p.count ∙ ap (λ l. count_in (map seen_kind l) row) next ∙ rw other refl;
      kinds = p.kinds ∙ ap (λ l. map seen_kind (take i ks) ++ counted (map seen_kind l) row) next
          ∙ rw (other, take_more ks i k lt, ← here, map-append seen_kind (take i ks) (k ∷ [])) (sym (append_assoc (map seen_kind (take i ks)) _ _));
    }

-- ---- kinds after another row

count_more : (p : SeenRow → Bool) (rows : List SeenRow) (row : SeenRow) → count_by p (rows ++ row ∷ []) ≡ count_by p rows + (if p row then 1 else 0)
count_more p rows row = rw (sum_by-append (λ x. if p x then 1 else 0) rows (row ∷ []), sum_by-cons (λ x. if p x then 1 else 0) row []) (omega arith)

pub same_verdict : (x r : SeenRow) → is_like x r ≡ true → verdict_word x.verdict ≡ verdict_word r.verdict
same_verdict x r is = grind (arith, is, bytes_eq-Decides (verdict_word x.verdict) (verdict_word r.verdict))

alike : (x r : SeenRow) → is_like x r ≡ true → is_like x ≡ is_like r
alike x r is = let code : x.code ≡ r.code = grind (arith, is, bytes_eq-Decides x.code r.code) in
    ap₂ {C = SeenRow → Bool} (λ (v c : List ℕ) (t : SeenRow). bytes_eq v (verdict_word t.verdict) && bytes_eq c t.code) (same_verdict x r is) code

like_back : (r s : SeenRow) → is_like r s ≡ is_like s r
like_back r s = grind (arith, bytes_eq-Decides (verdict_word r.verdict) (verdict_word s.verdict), bytes_eq-Decides (verdict_word s.verdict) (verdict_word r.verdict), bytes_eq-Decides r.code s.code, bytes_eq-Decides s.code r.code)

abbrev firsts : List SeenRow → List SeenRow → List SeenRow
firsts before rows = rows_by (λ n. n == 0) before rows

other_kind : (x r : SeenRow) (all : List SeenRow) → is_like x r ≡ false → kind_in (all ++ r ∷ []) x ≡ kind_in all x
other_kind x r all is = ap (λ n. record { verdict = x.verdict; code = x.code; count = n }) (count_more (is_like x) all r ∙ rw is (omega arith))

abbrev Stays : SeenRow → List SeenRow → List SeenRow → List SeenRow → Type 0
Stays r all before rows = map (kind_in (all ++ r ∷ [])) (firsts before (rows ++ r ∷ [])) ≡ map (kind_in all) (firsts before rows)

-- a row of a kind of earlier rows changes no later kind
stays : (r : SeenRow) (all before rows : List SeenRow) → (count_by (is_like r) before == 0) ≡ false → Stays r all before rows
stays r all before [] seen = rw seen refl
stays r all before (x ∷ xs) seen = go (is_like x r) refl (count_by (is_like x) before == 0) refl (stays r all (before ++ x ∷ []) xs (grind (arith, nat_tests, count_more (is_like r) before x, seen)))
  where
    go : (b : Bool) → is_like x r ≡ b → (c : Bool) → (count_by (is_like x) before == 0) ≡ c → Stays r all (before ++ x ∷ []) xs → Stays r all before (x ∷ xs)
    go true is c first later = rw (ap (λ p. count_by p before == 0) (alike x r is), seen) later
    go false is true first later = rw first (ap₂ (λ k ks. k ∷ ks) (other_kind x r all is) later)
    go false is false first later = rw first later

abbrev Counts : SeenRow → List SeenRow → List SeenRow → List SeenRow → Type 0
Counts r all before rows = (count_in (map (kind_in all) (firsts before rows)) r ≡ count_by (is_like r) all)
    × (counted (map (kind_in all) (firsts before rows)) r ≡ map (kind_in (all ++ r ∷ [])) (firsts before (rows ++ r ∷ [])))

-- a row is counted by its kind, or by a new kind
counts : (r : SeenRow) (all before rows : List SeenRow) → (count_by (is_like r) before == 0) ≡ true → count_by (is_like r) all ≡ count_by (is_like r) rows → Counts r all before rows
counts r all before [] none same =
    let self : is_like r r ≡ true = grind (arith, bytes_eq-Decides (verdict_word r.verdict) (verdict_word r.verdict), bytes_eq-Decides r.code r.code) in
    let one : 1 ≡ count_by (is_like r) (all ++ r ∷ []) = rw (count_more (is_like r) all r, self, same) refl in
    rw none (sym same, ap (λ n. record { verdict = r.verdict; code = r.code; count = n } ∷ []) one)
counts r all before (x ∷ xs) none same = go (is_like x r) refl (count_by (is_like x) before == 0) refl (λ like. counts r all (before ++ x ∷ []) xs
    (grind (arith, nat_tests, count_more (is_like r) before x, like_back r x, like, none)) (same ∙ rw (sum_by-cons (λ t. if is_like r t then 1 else 0) x xs, like_back r x, like) (omega arith)))
  where
    go : (b : Bool) → is_like x r ≡ b → (c : Bool) → (count_by (is_like x) before == 0) ≡ c → (is_like x r ≡ false → Counts r all (before ++ x ∷ []) xs) → Counts r all before (x ∷ xs)
    go true like c first later =
        let seen : (count_by (is_like r) (before ++ x ∷ []) == 0) ≡ false = grind (arith, nat_tests, count_more (is_like r) before x, like_back r x, like) in
        rw (ap (λ p. count_by p before == 0) (alike x r like), none, like) (
          ap (λ p. count_by p all) (alike x r like),
          ap₂ (λ n ks. record { verdict = x.verdict; code = x.code; count = n } ∷ ks) (sym (count_more (is_like x) all r ∙ rw like refl)) (sym (stays r all (before ++ x ∷ []) xs seen)),
        )
    go false like true first later = rw (first, like) ((later like).0, ap₂ (λ k ks. k ∷ ks) (sym (other_kind x r all like)) (later like).1)
    go false like false first later = rw first (later like)

abbrev Counted : SeenRow → List Kind → ℕ → List SeenKind → Type 0
Counted row ks n new = (rows : List SeenRow) → map seen_kind ks ≡ kinds_of rows → (n ≡ count_by (is_like row) rows) × (new ≡ kinds_of (rows ++ row ∷ []))

counted_by : (row : SeenRow) (ks : List Kind) (n : ℕ) (new : List SeenKind) → count_in (map seen_kind ks) row ≡ n → counted (map seen_kind ks) row ≡ new → Counted row ks n new
counted_by row ks n new count kinds = λ rows is. let all = rw (← is) at (counts row rows [] rows refl refl) in (sym count ∙ all.0, sym kinds ∙ all.1)

-- the row's kind is found
pub found : (row : SeenRow) (ks : List Kind) (i : ℕ) (k : Kind) (n : ℕ) → i < length ks → k ≡ get_or ks i k → is_of (seen_kind k) row ≡ true
    → Passed row ks i → n ≡ k.count + 1 → Counted row ks k.count (map seen_kind (set ks i (record k { count = n })))
found row ks i k n lt here is p more =
    let new : Kind = record k { count = n } in
    let next : drop i ks ≡ k ∷ drop (i + 1) ks = rest ks i k lt ∙ ap (λ d. d ∷ drop (i + 1) ks) (sym here) in
    counted_by row ks _ _ (p.count ∙ rw (next, is) refl) (p.kinds ∙ rw (next, is, ← more) (sym (map-append seen_kind (take i ks) (new ∷ drop (i + 1) ks)))
    ∙ ap (map seen_kind) (rw (take-set ks i new, drop-set ks i new lt) at (take-append-drop i (set ks i new))))

-- no kind is the row's
pub none_passed : (row : SeenRow) (ks : List Kind) (i : ℕ) (k : Kind) → length ks ≤ i → counted [] row ≡ seen_kind k ∷ [] → Passed row ks i → Counted row ks 0 (map seen_kind (ks ++ k ∷ []))
none_passed row ks i k all is p = counted_by row ks _ _ (p.count ∙ rw (drop_all i ks all) refl)
    (p.kinds ∙ rw (drop_all i ks all, take_all i ks all, is) (sym (map-append seen_kind ks (k ∷ []))))

-- ---- shown rows and counts

pub push_by : (fits : ℕ → Bool) (before rows : List SeenRow) (row : SeenRow)
    → rows_by fits before (rows ++ row ∷ []) ≡ rows_by fits before rows ++ only_if (fits (count_by (is_like row) (before ++ rows))) row
push_by fits before [] row = rw (append-nil before) (append-nil _)
push_by fits before (x ∷ xs) row = let first : List SeenRow = only_if (fits (count_by (is_like x) before)) x in
    ap (λ l. first ++ l) (rw (append_assoc before (x ∷ []) xs) at (push_by fits (before ++ x ∷ []) xs row)) ∙ sym (append_assoc first _ _)

-- further rows
pub rows_by-append : (fits : ℕ → Bool) (before rows more : List SeenRow)
    → rows_by fits before (rows ++ more) ≡ rows_by fits before rows ++ rows_by fits (before ++ rows) more
rows_by-append fits before [] more = rw (append-nil before) refl
rows_by-append fits before (x ∷ xs) more = let first : List SeenRow = only_if (fits (count_by (is_like x) before)) x in
    ap (λ l. first ++ l) (rw (append_assoc before (x ∷ []) xs) at (rows_by-append fits (before ++ x ∷ []) xs more)) ∙ sym (append_assoc first _ _)

pub some_bad : (p : SeenRow → Bool) (rows : List SeenRow) → nat_lt 0 (count_by p rows) ≡ list_any p rows
some_bad p [] = grind arith
some_bad p (x ∷ xs) = rw (sum_by-cons (λ t. if p t then 1 else 0) x xs) (go (p x) (some_bad p xs))
  where
    go : (b : Bool) → nat_lt 0 (count_by p xs) ≡ list_any p xs → nat_lt 0 ((if b then 1 else 0) + count_by p xs) ≡ (b || list_any p xs)
    go true e = grind (arith, nat_tests)
    go false e = grind (arith, nat_tests, e)
