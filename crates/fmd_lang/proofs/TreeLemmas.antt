-- The tokens of a tree are all expected, and form no other tree.
use Rattle.std.proofs.lemmas.Bool.Decides.{nat_tests}
use Rattle.std.proofs.Common.{◌≡◌, ◌≢◌, ℕ, suc, ◌<◌, nat_lt, Bool, true, false, List, [], ◌∷◌, ◌++◌, length, Option, Some, None, unwrap_or, if◌then◌else◌, refl, sym, subst, ◌∙◌, ap, arith, inl, inr, append_assoc}
use Rattle.std.proofs.lemmas.Bool.{cond_both, lt-ltb}
use Rattle.std.proofs.lemmas.List.{append-nil}
use Rattle.std.specs.Int.Bits.{bit_or}
use Rattle.fmd_lang.specs.Words.{Word, word, words, kind_of, literal_value}
use Rattle.fmd_lang.specs.Grammar.{Tree, section, Forest, none, some, Then, IsA, IsSection, AreSections, AreAnnotations, IsOffset, IsSize, annotation_flag, flags_with}
use Rattle.fmd_lang.specs.Faults.{Stage, start, in_annotations, at_sign, past, token_fault, next_standing, text_limit, fault_from, first_fault}
use Rattle.fmd_lang.specs.declared.fault.FmdFault.TheVariants as faults
use Rattle.fmd_lang.specs.declared.fault.Expected.{Expected}
use Rattle.fmd_lang.specs.declared.word.Kind.{Kind}
use Rattle.fmd_lang.specs.declared.word.Kind.TheVariants.{Name, Number, OpenParen, CloseParen, At, OpenBrace, CloseBrace}
use Rattle.fmd_lang.proofs.FormLemmas.{IsBody, annotation-name}
use Rattle.fmd_lang.proofs.OptionLemmas.{and-then-some, or-other}

-- The parts and sections built from the tokens, last to first: the parts of the next name, or an
-- open list of annotations; and the sections at each depth of braces.
record Built : Type 0 where
  inside : Bool
  marks : List Word
  flags : ℕ
  offset : Option ℕ
  size : Option ℕ
  number : Option ℕ  -- the number after the size
  parts : Forest
  levels : List Forest

-- the parts of a name, and the sections after
abbrev has : ℕ → Option ℕ → Option ℕ → Forest → List Forest → Built
has flags o z parts ls =
    record { inside = false; marks = []; flags = flags; offset = o; size = z; number = None; parts = parts; levels = ls }

abbrev nothing : List Forest → Built
nothing levels = has 0 None None none levels

abbrev first_level : List Forest → Forest
first_level [] = none
first_level (l ∷ ls) = l

abbrev other_levels : List Forest → List Forest
other_levels [] = []
other_levels (l ∷ ls) = ls

abbrev put_word : Kind → Word → Built → Built
put_word CloseParen w b = record b { inside = true }
put_word OpenParen w b = record b { inside = false; marks = []; flags = unwrap_or (flags_with 0 b.marks) 0 }
put_word Number w b = record b { size = literal_value w.bytes; number = b.size }
put_word At w b = record b { offset = b.size; size = b.number; number = None }
put_word CloseBrace w b = nothing (none ∷ b.levels)
put_word OpenBrace w b = record b { parts = first_level b.levels; levels = other_levels b.levels }
put_word Name w b = if b.inside then record b { marks = w ∷ b.marks }
    else nothing (some (section w.bytes b.flags b.offset b.size b.parts) (first_level b.levels) ∷ other_levels b.levels)
put_word k w b = b

abbrev build : List Word → Built
build [] = nothing (none ∷ [])
build (w ∷ ws) = put_word (kind_of w.bytes) w (build ws)

-- All tokens are expected, and build `b`.
record Makes (there : Stage × ℕ) (end : ℕ) (ws : List Word) (b : Built) : Type 0 where
  placed : (at : ℕ) (what : Expected) → fault_from there (ws ++ word end [] ∷ []) ≢ Some (faults.Expected at what)
  made : build ws ≡ b

-- the same after fewer than `most` optional parts
abbrev MakesPast : ℕ → ℕ → ℕ → List Word → Built → Type 0
MakesPast most depth end ws b = (n : ℕ) → n < most → Makes (past n, depth) end ws b

-- Tokens of the form P extend `behind` to `all`.
abbrev Adds : (List Word → Type 0) → ℕ → ℕ → ℕ → ℕ → Built → Built → Type 0
Adds P most most_behind depth end behind all = (ws r : List Word) → P ws →
    MakesPast most_behind depth end r behind → MakesPast most depth end (ws ++ r) all

adds-then : {P Q : List Word → Type 0} {l m n depth end : ℕ} {a b c : Built} → Adds P l m depth end b c →
    Adds Q m n depth end a b → Adds (Then P Q) l n depth end a c
adds-then p q ws r (front, back, split, first, second) more k few =
    rw (split, append_assoc front back r) (p front (back ++ r) first (q back r second more) k few)

-- A token's own fault is never an unexpected token.
own-placed : (k : Kind) (depth : ℕ) (w : Word) (at : ℕ) (what : Expected) → token_fault k depth w ≢ Some (faults.Expected at what)
own-placed Number depth w at what h = grind arith
own-placed Name depth w at what h = grind arith
own-placed OpenBrace depth w at what h = grind arith
own-placed k depth w at what h = cc

-- an expected token
makes : {s : Stage} {after : Stage × ℕ} {depth end : ℕ} {w : Word} {ws : List Word} {b c : Built} (k : Kind) → IsA k w →
    next_standing s depth k (annotation_flag w.bytes) ≡ Some after → Makes after end ws b → put_word k w b ≡ c →
    Makes (s, depth) end (w ∷ ws) c
makes {after = after} {depth = depth} {end = end} {w = w} {ws = ws} k is stands more same = grind (arith, nat_tests, or-other, own-placed)

size-adds : (o : Option ℕ) (parts : Forest) (ls : List Forest) (depth end : ℕ) →
    Adds (IsSize o) 3 4 depth end (has 0 None None parts ls) (has 0 None o parts ls)
size-adds None parts ls depth end ws r is more n few = rw is (more n (omega arith))
size-adds (Some z) parts ls depth end ws r (w, one, (is, value)) more n few =
    rw one (makes Number is (rw (lt-ltb n 3 few) refl) (more 3 (omega arith)) (rw value refl))

offset-adds : (o z : Option ℕ) (parts : Forest) (ls : List Forest) (depth end : ℕ) →
    Adds (IsOffset o) 2 3 depth end (has 0 None z parts ls) (has 0 o z parts ls)
offset-adds None z parts ls depth end ws r is more n few = rw is (more n (omega arith))
offset-adds (Some a) z parts ls depth end ws r (front, back, split, (m, first, at), (w, second, (is, value))) more n few =
    let number : Makes (at_sign, depth) end (w ∷ r) (put_word Number w (has 0 None z parts ls)) =
    makes Number is refl (more 2 (omega arith)) refl in
    rw (split, first, second) (makes At at (rw (lt-ltb n 2 few) refl) number (rw value refl))

-- an open list of annotations
abbrev listed : List Word → Option ℕ → Option ℕ → Forest → List Forest → Built
listed ws o z parts ls = record (has 0 o z parts ls) { inside = true; marks = ws }

more-make : (before flags depth end : ℕ) (ws : List Word) (c : Word) (r : List Word) (o z : Option ℕ) (parts : Forest)
    (ls : List Forest) → flags_with before ws ≡ Some flags → IsA CloseParen c →
    MakesPast 2 depth end r (has 0 o z parts ls) → Makes (in_annotations true, depth) end (ws ++ c ∷ r) (listed ws o z parts ls)
more-make before flags depth end [] c r o z parts ls h close more = makes CloseParen close refl (more 1 (omega arith)) refl
more-make before flags depth end (w ∷ ws) c r o z parts ls h close more =
    let (flag, known, rest) = and-then-some (annotation_flag w.bytes) (λ f. flags_with (bit_or before f) ws) flags h in
    makes Name (annotation-name w.bytes flag known) (rw known refl)
    (more-make (bit_or before flag) flags depth end ws c r o z parts ls rest close more) refl

annotations-add : (flags : ℕ) (o z : Option ℕ) (parts : Forest) (ls : List Forest) (depth end : ℕ) →
    Adds (AreAnnotations flags) 1 2 depth end (has 0 o z parts ls) (has flags o z parts ls)
annotations-add flags o z parts ls depth end ws r (inl (empty, unset)) more n few = rw (empty, unset) (more n (omega arith))
annotations-add flags o z parts ls depth end ws r (inr (a, b, split, first, ([], c, inner, flagged, closes))) more n few = grind (arith, nat_tests)
annotations-add flags o z parts ls depth end ws r (inr (a, b, split, marked, (w ∷ v, d, inner, flagged, closes))) more n few =
    let (m, first, opens) = marked in
    let (c, second, close) = closes in
    let (flag, known, rest) = and-then-some (annotation_flag w.bytes) (λ f. flags_with (bit_or 0 f) v) flags flagged.1 in
    let all : Makes (in_annotations false, depth) end (w ∷ (v ++ c ∷ r)) (listed (w ∷ v) o z parts ls) =
    makes Name (annotation-name w.bytes flag known) (rw known refl)
    (more-make (bit_or 0 flag) flags depth end v c r o z parts ls rest close more) refl in
    rw (split, first, inner, second, append_assoc v (c ∷ []) r)
    (makes OpenParen opens (rw (lt-ltb n 1 few) refl) all (rw (flagged.1) refl))

abbrev join : Forest → Forest → Forest
join none l = l
join (some t ts) l = some t (join ts l)

join-none : (ts : Forest) → join ts none ≡ ts
join-none none = refl
join-none (some t ts) = ap (some t) (join-none ts)

body-adds : (parts : Forest) (ls : List Forest) (depth end : ℕ) →
    Adds (AreSections parts) 5 5 (suc depth) end (nothing (none ∷ ls)) (nothing (join parts none ∷ ls)) →
    Adds (IsBody parts) 4 5 depth end (nothing ls) (has 0 None None parts ls)
body-adds parts ls depth end sections ws r (inl (empty, unset)) more n few = rw (empty, unset) (more n (omega arith))
body-adds parts ls depth end sections ws r (inr (a, b, split, (m, first, opens), (v, d, inner, are, closes))) more n few =
    let (c, second, close) = closes in
    let behind : MakesPast 5 (suc depth) end (c ∷ r) (nothing (none ∷ ls)) = λ k below.
    makes CloseBrace close refl (more 4 (omega arith)) refl in
    rw (split, first, inner, second, append_assoc v (c ∷ []) r)
    (makes OpenBrace opens (rw (lt-ltb n 4 few) refl) (sections v (c ∷ r) are behind 4 (omega arith))
    (ap (λ ts. has 0 None None ts ls) (join-none parts)))

mutual
  -- a section in place of an expected name
  section-makes : (t : Tree) (s : Stage) (depth end : ℕ) (ws r : List Word) (l : Forest) (ls : List Forest) →
      IsSection t ws → ((flag : Option ℕ) → next_standing s depth Name flag ≡ Some (past 0, depth)) →
      MakesPast 5 depth end r (nothing (l ∷ ls)) → Makes (s, depth) end (ws ++ r) (nothing (some t l ∷ ls))
  section-makes (section name flags offset size parts) s depth end ws r l ls (a, rest, split, named, others) stands more =
      let (w, one, (is, called, short)) = named in
      let levels : List Forest = l ∷ ls in
      let body = body-adds parts levels depth end (λ v q are behind. sections-make parts depth end v q none levels are behind) in
      let sized = adds-then {m = 4} {b = has 0 None None parts levels} (size-adds size parts levels depth end) body in
      let placed = adds-then {m = 3} {b = has 0 None size parts levels} (offset-adds offset size parts levels depth end) sized in
      let all = adds-then {m = 2} {b = has 0 offset size parts levels} (annotations-add flags offset size parts levels depth end) placed in
      let behind = all rest r others more 0 (omega arith) in
      rw (split, one) (makes Name is (stands (annotation_flag w.bytes)) behind (rw called refl))

  -- sections inside braces
  sections-make : (ts : Forest) (depth end : ℕ) (ws r : List Word) (l : Forest) (ls : List Forest) → AreSections ts ws →
      MakesPast 5 (suc depth) end r (nothing (l ∷ ls)) → MakesPast 5 (suc depth) end (ws ++ r) (nothing (join ts l ∷ ls))
  sections-make none depth end ws r l ls is more n few = rw is (more n few)
  sections-make (some t ts) depth end ws r l ls (front, back, split, one, others) more n few =
      rw (split, append_assoc front back r)
      (section-makes t (past n) (suc depth) end front (back ++ r) (join ts l) ls one (λ flag. refl)
      (sections-make ts depth end back r l ls others more))

root-makes : (t : Tree) (end : ℕ) (ws : List Word) → IsSection t ws → Makes (start, 0) end ws (nothing (some t none ∷ []))
root-makes t end ws is =
    subst (λ v. Makes (start, 0) end v (nothing (some t none ∷ []))) (append-nil ws)
    (section-makes t start 0 end ws [] none [] is (λ flag. refl) (λ n few. record { placed = λ at what h. cc; made = refl }))

pub text-placed : (t : Tree) (text : List ℕ) → IsSection t (words text) → (at : ℕ) (what : Expected) →
    first_fault text ≢ Some (faults.Expected at what)
unfolding first_fault
text-placed t text is at what =
    cond_both (nat_lt text_limit (length text)) (Some faults.TextTooLong) (fault_from (start, 0) (words text ++ word (length text) [] ∷ []))
    (λ o. o ≢ Some (faults.Expected at what)) (λ long h. cc) (λ short. (root-makes t (length text) (words text) is).placed at what)

pub one-tree : (t u : Tree) (ws : List Word) → IsSection t ws → IsSection u ws → t ≡ u
one-tree t u ws one other =
    let same : some t none ≡ some u none =
    ap (λ b. first_level b.levels) (sym (root-makes t 0 ws one).made ∙ (root-makes u 0 ws other).made) in
    cc
