-- Annotations and sections, by token and by section.
use Rattle.std.proofs.lemmas.Bool.Decides.{nat_tests}
use Rattle.std.proofs.Common.{◌≡◌, ℕ, ◌<◌, Bool, true, false, List, [], ◌∷◌, ◌++◌, length, Some, None, option_map, refl, sym, ◌∙◌, ap, arith, append_assoc, length-append}
use Rattle.std.proofs.lemmas.List.{append-nil, map-append}
use Rattle.std.proofs.lemmas.Slice.Eq.{bytes_eq-Decides}
use Rattle.fmd_lang.specs.Faults.{token_fault}
use Rattle.fmd_lang.proofs.OptionLemmas.{and-then-some}
use Rattle.std.specs.Int.Bits.{bit_or}
use Rattle.std.specs.List.{list_all}
use Rattle.fmd_lang.specs.Words.{Word, kind_of}
use Rattle.fmd_lang.specs.Grammar.{Enclosed, One, Then, IsA, IsSection, AreSections, annotation_flag, annotations, flags_with, Tree, Forest, none, forest_of, view, views}
use Rattle.fmd_lang.specs.declared.section.Section.{Section}
use Rattle.fmd_lang.specs.declared.word.Kind.{Kind}
use Rattle.fmd_lang.specs.declared.word.Kind.TheVariants.{Name, CloseParen, OpenBrace, CloseBrace}

-- sections in braces, or no token
abbrev pub IsBody : Forest → List Word → Type 0
IsBody parts = Enclosed OpenBrace CloseBrace (AreSections parts) (parts ≡ none)

-- a sequence before a last token
abbrev pub Until : Kind → (List Word → Type 0) → List Word → Type 0
Until last P = Then P (One (IsA last))

-- a nonempty list of annotations
abbrev pub HaveFlags : ℕ → List Word → Type 0
HaveFlags flags ws = (0 < length ws) × (flags_with 0 ws ≡ Some flags)

-- the last two of three forms as one
pub nested : {P Q R S : List Word → Type 0} → ((v : List Word) → Then Q R v → S v) → (ws : List Word) → Then (Then P Q) R ws → Then P S ws
nested wider ws (f, r, split, (a, b, inner, p, q), last) =
    (a, b ++ r, split ∙ ap (λ v. v ++ r) inner ∙ append_assoc a b r, p, wider (b ++ r) (b, r, refl, q, last))

abbrev pub IsAnnotation : ℕ → Word → Type 0
IsAnnotation flag w = annotation_flag w.bytes ≡ Some flag

pub flags-cons : (before flag flags : ℕ) (v : List Word) →
    Then (One (IsAnnotation flag)) (Then (λ ws. flags_with (bit_or before flag) ws ≡ Some flags) (One (IsA CloseParen))) v →
    Then (λ ws. (0 < length ws) × (flags_with before ws ≡ Some flags)) (One (IsA CloseParen)) v
flags-cons before flag flags v (front, back, split, (w, one, is), (annotations, close, inner, all, end)) =
    (w ∷ annotations, close, split ∙ ap (λ f. f ++ back) one ∙ ap (λ b. w ∷ b) inner, (omega arith, rw is all), end)

flags-push : (ws : List Word) (before flags flag : ℕ) (w : Word) → flags_with before ws ≡ Some flags → IsAnnotation flag w →
    flags_with before (ws ++ w ∷ []) ≡ Some (bit_or flags flag)
flags-push [] before flags flag w h is = rw is (ap (option_map (λ n. bit_or n flag)) h)
flags-push (v ∷ ws) before flags flag w h is =
    let (f, known, rest) = and-then-some (annotation_flag v.bytes) (λ n. flags_with (bit_or before n) ws) flags h in
    rw known (flags-push ws (bit_or before f) flags flag w rest is)

pub flags-snoc : (any : Bool) (flags flag : ℕ) (v : List Word) →
    Then (λ ws. (any ≡ true → 0 < length ws) × (flags_with 0 ws ≡ Some flags)) (One (IsAnnotation flag)) v →
    (true ≡ true → 0 < length v) × (flags_with 0 v ≡ Some (bit_or flags flag))
flags-snoc any flags flag v (front, back, split, (some, all), (w, one, is)) =
    (λ e. omega (arith, ap length (split ∙ ap (λ b. front ++ b) one), length-append front (w ∷ [])), rw (split, one) (flags-push front 0 flags flag w all is))

-- A test of all annotations holds for each annotation.
pub each-annotation : (test : List ℕ × ℕ → Bool) → list_all test annotations ≡ true → (bytes : List ℕ) (flag : ℕ) →
    annotation_flag bytes ≡ Some flag → test (bytes, flag) ≡ true
each-annotation test all bytes flag known = grind (arith, nat_tests, bytes_eq-Decides)

abbrev is_name : Kind → Bool
is_name Name = true
is_name k = false

name-is : (k : Kind) → is_name k ≡ true → k ≡ Name
name-is Name is = refl
name-is k is = cc

pub annotation-name : (bytes : List ℕ) (flag : ℕ) → annotation_flag bytes ≡ Some flag → kind_of bytes ≡ Name
annotation-name bytes flag known = grind (arith, nat_tests, name-is, each-annotation)

pub section-opens : (w : Word) (t : Tree) (v : List Word) → Then (One (λ x. x ≡ w)) (λ ws. IsSection t (w ∷ ws)) v → IsSection t v
section-opens w t v (front, back, split, (x, one, same), is) = grind (arith, nat_tests)

sections-push : (ts : List Tree) (t : Tree) (ws more : List Word) → AreSections (forest_of ts) ws → IsSection t more →
    AreSections (forest_of (ts ++ t ∷ [])) (ws ++ more)
sections-push [] t ws more empty one = (more, [], rw (empty) (sym (append-nil more)), one, refl)
sections-push (u ∷ ts) t ws more (first, rest, split, head, tail) one = grind (arith, nat_tests, append_assoc, sections-push ts t rest more tail one)

pub sections-snoc : (parts : List Section) (part : Section) (v : List Word) →
    Then (AreSections (views parts)) (IsSection (view part)) v → AreSections (views (parts ++ part ∷ [])) v
sections-snoc parts part v (front, back, split, all, one) = grind (arith, nat_tests, map-append, sections-push)

pub name-short : (depth : ℕ) (w : Word) → token_fault Name depth w ≡ None → length w.bytes < 32
name-short depth w own = grind arith
