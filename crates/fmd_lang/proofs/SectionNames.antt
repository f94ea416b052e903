-- The names of sections, token by token.
use Rattle.std.proofs.Common.{◌≡◌, ◌≢◌, ℕ, zero, suc, ◌-◌, Bool, true, false, List, [], ◌∷◌, ◌++◌, map, Option, Some, None, refl, sym, ◌∙◌, ap, arith, inl, inr, append_assoc}
use Rattle.std.proofs.lemmas.List.{append-nil}
use Rattle.std.specs.Int.Bits.{bit_or}
use Rattle.std.specs.List.{slice_get}
use Rattle.fmd_lang.specs.Words.{Word, words, kind_of}
use Rattle.fmd_lang.specs.Grammar.{Tree, section, Forest, none, some, names, names_of, Then, IsA, IsSection, AreSections, AreAnnotations, IsOffset, IsSize, annotation_flag, flags_with}
use Rattle.fmd_lang.specs.Positions.{is_inside, section_word, section_words}
use Rattle.fmd_lang.specs.declared.word.Kind.{Kind}
use Rattle.fmd_lang.specs.declared.word.Kind.TheVariants.{Name, CloseParen}
use Rattle.fmd_lang.proofs.FormLemmas.{IsBody, annotation-name}
use Rattle.fmd_lang.proofs.OptionLemmas.{and-then-some}

-- the names among the tokens
abbrev found : Bool → List Word → List (List ℕ)
found inside ws = map (λ (w : Word). w.bytes) (section_words inside ws)

-- tokens of the form P have these names
abbrev Gives : (List Word → Type 0) → List (List ℕ) → Type 0
Gives P ns = (ws r : List Word) → P ws → found false (ws ++ r) ≡ ns ++ found false r

gives-then : {P Q : List Word → Type 0} (ms ns : List (List ℕ)) → Gives P ms → Gives Q ns → Gives (Then P Q) (ms ++ ns)
gives-then ms ns p q ws r (front, back, split, first, second) =
    rw (split, append_assoc front back r) (p front (back ++ r) first ∙ ap (λ l. ms ++ l) (q back r second) ∙ sym (append_assoc ms ns (found false r)))

size-gives : (size : Option ℕ) → Gives (IsSize size) []
size-gives None ws r is = rw is refl
size-gives (Some n) ws r (w, one, (is, value)) = rw (one, is) refl

offset-gives : (offset : Option ℕ) → Gives (IsOffset offset) []
offset-gives None ws r is = rw is refl
offset-gives (Some n) ws r (front, back, split, (m, first, at), (w, second, (is, value))) = rw (split, first, second, at, is) refl

-- annotations up to the closing parenthesis
marks-give : (before flags : ℕ) (ws : List Word) (c : Word) (r : List Word) → flags_with before ws ≡ Some flags → IsA CloseParen c →
    found true (ws ++ c ∷ r) ≡ found false r
marks-give before flags [] c r h close = rw close refl
marks-give before flags (w ∷ ws) c r h close =
    let (flag, known, rest) = and-then-some (annotation_flag w.bytes) (λ f. flags_with (bit_or before f) ws) flags h in
    rw (annotation-name w.bytes flag known) (marks-give (bit_or before flag) flags ws c r rest close)

annotations-give : (flags : ℕ) → Gives (AreAnnotations flags) []
annotations-give flags ws r (inl (empty, unset)) = rw empty refl
annotations-give flags ws r (inr (a, b, split, (m, first, opens), (v, d, inner, flagged, (c, second, close)))) =
    rw (split, first, inner, second, append_assoc v (c ∷ []) r, opens) (marks-give 0 flags v c r flagged.1 close)

body-gives : (parts : Forest) → Gives (AreSections parts) (names_of parts) → Gives (IsBody parts) (names_of parts)
body-gives parts inner ws r (inl (empty, unset)) = rw (empty, unset) refl
body-gives parts given ws r (inr (a, b, split, (m, first, opens), (v, d, inner, are, (c, second, close)))) =
    rw (split, first, inner, second, append_assoc v (c ∷ []) r, opens) (given v (c ∷ r) are ∙ ap (λ l. names_of parts ++ l) (rw close refl))

mutual
  section-gives : (t : Tree) → Gives (IsSection t) (names t)
  section-gives (section name flags offset size parts) ws r (a, rest, split, (w, one, (is, called, short)), others) =
      let body = body-gives parts (sections-give parts) in
      let all = gives-then [] (names_of parts) (annotations-give flags) (gives-then [] (names_of parts) (offset-gives offset)
      (gives-then [] (names_of parts) (size-gives size) body)) in
      rw (split, one, is, called) (ap (λ l. name ∷ l) (all rest r others))

  sections-give : (ts : Forest) → Gives (AreSections ts) (names_of ts)
  sections-give none ws r is = rw is refl
  sections-give (some t ts) ws r (front, back, split, one, others) =
      rw (split, append_assoc front back r) (section-gives t front (back ++ r) one
      ∙ ap (λ l. names t ++ l) (sections-give ts back r others) ∙ sym (append_assoc (names t) (names_of ts) (found false r)))

pub names-found : (t : Tree) (text : List ℕ) → IsSection t (words text) → map (λ (w : Word). w.bytes) (section_words false (words text)) ≡ names t
names-found t text is = rw (sym (append-nil (words text))) (section-gives t (words text) [] is ∙ append-nil (names t))

-- ---- a token, and those after it

pub over-word : (all later : List Word) (w : Word) (k : Kind) (inside : Bool) (left : ℕ) → all ≡ w ∷ later →
    kind_of w.bytes ≡ k → section_word k inside w ≡ [] →
    slice_get (section_words inside all) left ≡ slice_get (section_words (is_inside k inside) later) left
over-word all later w k inside left split is other = rw (split, is, other) refl

pub at-name : (all later : List Word) (w : Word) → all ≡ w ∷ later → kind_of w.bytes ≡ Name →
    slice_get (section_words false all) 0 ≡ Some w
at-name all later w split is = rw (split, is) refl

pub over-name : (all later : List Word) (w : Word) (left : ℕ) → all ≡ w ∷ later → kind_of w.bytes ≡ Name → left ≢ 0 →
    slice_get (section_words false all) left ≡ slice_get (section_words false later) (left - 1)
over-name all later w zero split is more = absurd (more refl)
over-name all later w (suc n) split is more = rw (split, is) (ap (λ i. slice_get (section_words false later) i) (omega arith))
