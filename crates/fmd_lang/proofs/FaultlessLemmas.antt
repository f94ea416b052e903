-- Tokens without a fault form a tree.
use Rattle.std.proofs.Common.{◌≡◌, ◌≢◌, ℕ, zero, suc, ◌+◌, ◌-◌, ◌≤◌, nat_lt, true, false, List, [], ◌∷◌, ◌++◌, Option, Some, None, refl, sym, ◌∙◌, ap, arith, inl, inr, append_assoc, subst, All}
use Rattle.std.specs.Bool.{then_some}
use Rattle.std.specs.Int.Bits.{bit_or}
use Rattle.std.specs.Result.{result_err}
use Rattle.std.proofs.lemmas.Bool.Decides.{nat_tests}
use Rattle.std.proofs.lemmas.List.{append-nil}
use Rattle.std.proofs.lemmas.List.Elements.{All-head, All-tail}
use Rattle.fmd_lang.specs.Words.{words_after, Word, word, words, kind_of, number_at, literal_value}
use Rattle.fmd_lang.specs.Grammar.{Tree, section, Forest, none, some, Then, One, IsA, IsName, IsSection, AreSections, AreAnnotations, IsOffset, IsSize, HasValue, annotation_flag, flags_with}
use Rattle.fmd_lang.specs.Faults.{Stage, start, in_annotations, at_sign, past, token_fault, fault_from, first_fault, next_standing, wanted_at}
use Rattle.fmd_lang.specs.declared.word.Kind.{Kind}
use Rattle.fmd_lang.specs.declared.word.Kind.TheVariants.{Name, Number, OpenParen, CloseParen, At, OpenBrace, CloseBrace, End}
use Rattle.fmd_lang.specs.declared.fault.FmdFault.TheVariants as faults
use Rattle.fmd_lang.proofs.NameFields.{IsWhole, words_whole}
use Rattle.fmd_lang.proofs.OptionLemmas.{cond-none, map_or-none, or-none}
use Rattle.fmd_lang.proofs.FormLemmas.{HaveFlags, IsBody, Until, annotation-name, flags-cons, name-short}

-- ---- the rest of a text

abbrev FromBody : List Word → Type 0
FromBody ws = (parts : Forest) × IsBody parts ws

abbrev FromSize : List Word → Type 0
FromSize ws = (size : Option ℕ) × Then (IsSize size) FromBody ws

abbrev FromOffset : List Word → Type 0
FromOffset ws = (offset : Option ℕ) × Then (IsOffset offset) FromSize ws

-- the last n optional parts of a section
abbrev Ahead : ℕ → List Word → Type 0
Ahead zero ws = ws ≡ []
Ahead (suc zero) ws = FromBody ws
Ahead (suc (suc zero)) ws = FromSize ws
Ahead (suc (suc (suc zero))) ws = FromOffset ws
Ahead (suc (suc (suc (suc n)))) ws = (flags : ℕ) × Then (AreAnnotations flags) FromOffset ws

-- the tokens after a section in `depth` open braces
abbrev Behind : ℕ → List Word → Type 0
Behind zero ws = ws ≡ []
Behind (suc depth) ws = (ts : Forest) × Then (Until CloseBrace (AreSections ts)) (Behind depth) ws

abbrev Left : Stage → ℕ → List Word → Type 0
Left start depth ws = (t : Tree) × Then (IsSection t) (Behind depth) ws
Left (in_annotations false) depth ws =
    (flags : ℕ) × Then (Until CloseParen (HaveFlags flags)) (Then (Ahead 3) (Behind depth)) ws
Left (in_annotations true) depth ws =
    (before : ℕ) → (flags : ℕ) × Then (Until CloseParen (λ v. flags_with before v ≡ Some flags)) (Then (Ahead 3) (Behind depth)) ws
Left at_sign depth ws = (n : ℕ) × Then (One (HasValue n)) (Then (Ahead 2) (Behind depth)) ws
Left (past n) depth ws = Then (Ahead (4 - n)) (Behind depth) ws

-- ---- forms

joined : (P Q R : List Word → Type 0) (ws : List Word) → Then P (Then Q R) ws → Then (Then P Q) R ws
joined P Q R ws (a, r, split, p, (b, c, inner, q, behind)) =
    (a ++ b, c, split ∙ ap (λ v. a ++ v) inner ∙ sym (append_assoc a b c), (a, b, refl, p, q), behind)

-- An optional part can be absent.
wider : (n : ℕ) (ws : List Word) → Ahead n ws → Ahead (suc n) ws
wider zero ws h = (none, inl (h, refl))
wider (suc zero) ws h = (None, ([], ws, refl, refl, h))
wider (suc (suc zero)) ws h = (None, ([], ws, refl, refl, h))
wider (suc (suc (suc zero))) ws h = (0, ([], ws, refl, inl (refl, refl), h))
wider (suc (suc (suc (suc n)))) ws h = h

raise : (more n m : ℕ) (ws : List Word) → n + more ≡ m → Ahead n ws → Ahead m ws
raise zero n m ws e h = subst (λ i. Ahead i ws) (let same : n ≡ m = omega arith in same) h
raise (suc more) n m ws e h = raise more (suc n) m ws (omega arith) (wider n ws h)

up : (k n : ℕ) (ws : List Word) → k ≤ 4 - n → Ahead k ws → Ahead (4 - n) ws
up k n ws few h = raise (4 - n - k) k (4 - n) ws (omega arith) h

over : (Q : List Word → Type 0) (ws : List Word) → Then (Ahead 0) Q ws → Q ws
over Q ws (front, behind, split, empty, q) = subst Q (sym (split ∙ ap (λ v. v ++ behind) empty)) q

section-is : (w : Word) (ws : List Word) → IsName w.bytes w → Ahead 4 ws → (t : Tree) × IsSection t (w ∷ ws)
section-is w ws named (flags, (a, b, split, marked, (offset, (c, d, inner, placed, rest)))) =
    let (size, (e, f, last, sized, (parts, body))) = rest in
    (section w.bytes flags offset size parts, (w ∷ [], ws, refl, (w, refl, named), (a, b, split, marked, (c, d, inner, placed, (e, f, last, sized, body)))))

-- ---- a token

has-value : (at : ℕ) (value : Option ℕ) → result_err (number_at at value) ≡ None → (n : ℕ) × (value ≡ Some n)
has-value at None h = cc
has-value at (Some n) h = (n, refl)

number-is : (depth : ℕ) (w : Word) → IsA Number w → token_fault (kind_of w.bytes) depth w ≡ None → (n : ℕ) × HasValue n w
number-is depth w is own = let (n, value) = has-value w.place (literal_value w.bytes) (rw is at own) in (n, (is, value))

-- the rest after an expected token
abbrev Rest : Option (Stage × ℕ) → List Word → Type 0
Rest None ws = ⊥
Rest (Some (t, depth)) ws = Left t depth ws

room : (n m : ℕ) (t : Stage) (depth : ℕ) (ws : List Word) → m ≤ 4 → Rest (then_some (nat_lt n m) (t, depth)) ws →
    (5 - m ≤ 4 - n) × Left t depth ws
room n m t depth ws small = grind (arith, nat_tests)

-- an expected token before the rest
step : (s : Stage) (k : Kind) (flag : Option ℕ) (depth : ℕ) (w : Word) (ws : List Word) → IsA k w → k ≢ End →
    annotation_flag w.bytes ≡ flag → token_fault (kind_of w.bytes) depth w ≡ None → Rest (next_standing s depth k flag) ws →
    Left s depth (w ∷ ws)
step start Name flag depth w ws is there known own (front, behind, split, ahead, closed) =
    let (t, one) = section-is w front (is, refl, name-short depth w (rw is at own)) ahead in
    (t, (w ∷ front, behind, ap (λ v. w ∷ v) split, one, closed))
step start k flag depth w ws is there known own rest = absurd rest
step (in_annotations false) Name (Some flag) depth w ws is there known own rest =
    let (flags, (a, behind, split, more, ahead)) = rest flag in
    let all = flags-cons 0 flag flags (w ∷ a) (w ∷ [], a, refl, (w, refl, known), more) in
    (flags, (w ∷ a, behind, ap (λ v. w ∷ v) split, all, ahead))
step (in_annotations false) k (Some flag) depth w ws is there known own rest = let name = annotation-name w.bytes flag known in cc
step (in_annotations false) k None depth w ws is there known own rest = absurd rest
step (in_annotations true) CloseParen flag depth w ws is there known own rest =
    λ before. (before, (w ∷ [], ws, refl, ([], w ∷ [], refl, refl, (w, refl, is)), rest))
step (in_annotations true) Name (Some flag) depth w ws is there known own rest = λ before.
    let (flags, (a, behind, split, more, ahead)) = rest (bit_or before flag) in
    let (b, c, inner, all, close) = flags-cons before flag flags (w ∷ a) (w ∷ [], a, refl, (w, refl, known), more) in
    (flags, (w ∷ a, behind, ap (λ v. w ∷ v) split, (b, c, inner, all.1, close), ahead))
step (in_annotations true) k (Some flag) depth w ws is there known own rest = let name = annotation-name w.bytes flag known in cc
step (in_annotations true) k None depth w ws is there known own rest = absurd rest
step at_sign Number flag depth w ws is there known own rest =
    let (n, value) = number-is depth w is own in (n, (w ∷ [], ws, refl, (w, refl, value), rest))
step at_sign k flag depth w ws is there known own rest = absurd rest
step (past n) OpenParen flag depth w ws is there known own rest =
    let (fits, (flags, more)) = room n 1 (in_annotations false) depth ws (omega arith) rest in
    let (front, behind, split, (a, b, inner, closed, ahead), q) =
    joined (Until CloseParen (HaveFlags flags)) (Ahead 3) (Behind depth) ws more in
    let all = up 4 n (w ∷ front) fits (flags, (w ∷ a, b, ap (λ v. w ∷ v) inner, inr (w ∷ [], a, refl, (w, refl, is), closed), ahead)) in
    (w ∷ front, behind, ap (λ v. w ∷ v) split, all, q)
step (past n) At flag depth w ws is there known own rest =
    let (fits, (place, more)) = room n 2 at_sign depth ws (omega arith) rest in
    let (front, behind, split, (a, b, inner, at, ahead), q) = joined (One (HasValue place)) (Ahead 2) (Behind depth) ws more in
    let all = up 3 n (w ∷ front) fits (Some place, (w ∷ a, b, ap (λ v. w ∷ v) inner, (w ∷ [], a, refl, (w, refl, is), at), ahead)) in
    (w ∷ front, behind, ap (λ v. w ∷ v) split, all, q)
step (past n) Number flag depth w ws is there known own rest =
    let (fits, (front, behind, split, ahead, q)) = room n 3 (past 3) depth ws (omega arith) rest in
    let (size, value) = number-is depth w is own in
    let all = up 2 n (w ∷ front) fits (Some size, (w ∷ [], front, refl, (w, refl, value), ahead)) in
    (w ∷ front, behind, ap (λ v. w ∷ v) split, all, q)
step (past n) OpenBrace flag depth w ws is there known own rest =
    let (fits, more) = room n 4 (past 4) (suc depth) ws (omega arith) rest in
    let (parts, (front, behind, split, closed, q)) = over (Behind (suc depth)) ws more in
    let all = up 1 n (w ∷ front) fits (parts, inr (w ∷ [], front, refl, (w, refl, is), closed)) in
    (w ∷ front, behind, ap (λ v. w ∷ v) split, all, q)
step (past n) Name flag (suc depth) w ws is there known own (front, behind, split, ahead, (ts, closed)) =
    let (t, one) = section-is w front (is, refl, name-short (suc depth) w (rw is at own)) ahead in
    let (a, b, whole, sections, outer) =
    joined (IsSection t) (Until CloseBrace (AreSections ts)) (Behind depth) (w ∷ ws) (w ∷ front, behind, ap (λ v. w ∷ v) split, one, closed) in
    ([], w ∷ ws, refl, up 0 n [] (omega arith) refl, (some t ts, (a, b, whole, joined (IsSection t) (AreSections ts) (One (IsA CloseBrace)) a sections, outer)))
step (past n) CloseBrace flag (suc depth) w ws is there known own rest =
    let outer = over (Behind depth) ws rest in
    ([], w ∷ ws, refl, up 0 n [] (omega arith) refl, (none, (w ∷ [], ws, refl, ([], w ∷ [], refl, refl, (w, refl, is)), outer)))
step (past n) End flag depth w ws is there known own rest = absurd (there refl)
step (past n) k flag zero w ws is there known own rest = absurd rest
step (past n) k flag (suc depth) w ws is there known own rest = absurd rest

ends : (s : Stage) (depth end : ℕ) → fault_from (s, depth) (word end [] ∷ []) ≡ None → Left s depth []
ends (past n) zero end h = ([], [], refl, up 0 n [] (omega arith) refl, refl)
ends (in_annotations true) depth end h = cc
ends s depth end h = cc

left : (ws : List Word) (s : Stage) (depth end : ℕ) → All IsWhole ws → fault_from (s, depth) (ws ++ word end [] ∷ []) ≡ None → Left s depth ws
left [] s depth end whole h = ends s depth end h
left (w ∷ ws) s depth end whole h =
    let k = kind_of w.bytes in
    let flag = annotation_flag w.bytes in
    let (own, others) = or-none (token_fault k depth w) _ h in
    let ((t, inner), stands, fine) = map_or-none (λ t. fault_from t (ws ++ word end [] ∷ [])) (next_standing s depth k flag)
    (faults.Expected w.place (wanted_at s depth k)) others in
    let behind = left ws t inner end (All-tail IsWhole w ws whole) fine in
    step s k flag depth w ws refl (All-head IsWhole w ws whole).0 refl own (rw stands behind)

pub faultless-tree : (text : List ℕ) → first_fault text ≡ None → (t : Tree) × IsSection t (words text)
unfolding first_fault words_after
faultless-tree text h = grind (arith, nat_tests, words_whole, cond-none, left, append-nil)
