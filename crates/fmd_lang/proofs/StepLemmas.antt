-- Single tokens, expected and unexpected.
use Rattle.std.proofs.lemmas.Bool.Decides.{nat_tests}
use Rattle.std.proofs.Common.{Bool, true, false, ◌≡◌, ◌≢◌, ℕ, ◌<◌, ◌≤◌, List, [], ◌∷◌, ◌++◌, length, Some, Result, Ok, Err, refl, sym, ◌∙◌, ap, arith, inl, inr, append_assoc}
use Rattle.fmd_lang.specs.Words.{Word, words_after, kind_of}
use Rattle.fmd_lang.specs.Grammar.{One, Then, IsA, HasValue, annotation_flag}
use Rattle.fmd_lang.specs.Faults.{Stage, in_annotations, next_standing}
use Rattle.fmd_lang.proofs.FormLemmas.{IsAnnotation, annotation-name}
use Rattle.fmd_lang.specs.ParserResults.{ReadsTokens, Parses, IsNext, word_of, piece_end}
use Rattle.fmd_lang.specs.declared.parser.Token.{Token}
use Rattle.fmd_lang.specs.declared.word.Kind.{Kind}
use Rattle.fmd_lang.specs.declared.word.Kind.TheVariants.{End, Name, Number}
use Rattle.fmd_lang.specs.declared.fault.FmdFault.{FmdFault}

-- ---- forms

pub reads-then : {P Q : List Word → Type 0} {before middle after : Stage × ℕ} {text : List ℕ} {from mid to : ℕ} →
    ReadsTokens P before middle text from mid → ReadsTokens Q middle after text mid to → ReadsTokens (Then P Q) before after text from to
reads-then {text = text} {to = to} p q = record {
  ahead = omega (arith, p.ahead, q.ahead);
  front = p.front ++ q.front;
  split = p.split ∙ ap (λ v. p.front ++ v) q.split ∙ sym (append_assoc p.front q.front (words_after text to));
  form = (p.front, q.front, refl, p.form, q.form);
  same = p.same ∙ q.same;
}

pub reads-as : {P Q : List Word → Type 0} {before after : Stage × ℕ} {text : List ℕ} {from to : ℕ} →
    ((v : List Word) → P v → Q v) → ReadsTokens P before after text from to → ReadsTokens Q before after text from to
reads-as wider p = record { ahead = p.ahead; front = p.front; split = p.split; form = wider p.front p.form; same = p.same }

-- ---- tokens

-- an expected token between two offsets
pub record Takes (F : Word → Type 0) (before after : Stage × ℕ) (text : List ℕ) (from to : ℕ) : Type 0 where
  pub ahead : from < to
  pub inside : to ≤ length text
  pub reads : ReadsTokens (One F) before after text from to

pub token-takes : {text : List ℕ} {from depth to : ℕ} {token : Token} (F : Word → Type 0) (s : Stage) (after : Stage × ℕ)
    (k : Kind) → IsNext text from depth token → to ≡ piece_end token.word → token.kind ≡ k → k ≢ End →
    next_standing s depth k (annotation_flag token.word.bytes.now) ≡ Some after → F (word_of token.word) →
    Takes F (s, depth) after text from to
token-takes {text = text} {depth = depth} {token = token} F s after k next end kind some stands form = elim next.first [
  | inl over ↦ absurd (some (sym kind ∙ sym next.kind ∙ ap (λ w. kind_of w.bytes) over.1))
  | inr first ↦ record {
    ahead = omega (arith, first, end);
    inside = omega (arith, first, end);
    reads = record {
      ahead = omega (arith, first, end);
      front = word_of token.word ∷ [];
      split = rw end first.0;
      form = (word_of token.word, refl, form);
      same = rw (first.0, next.clear, next.kind, kind, stands, end) refl;
    };
  }
]

pub token-mark : {text : List ℕ} {from depth to : ℕ} {token : Token} (s : Stage) (after : Stage × ℕ) (k : Kind) →
    IsNext text from depth token → to ≡ piece_end token.word → token.kind ≡ k → k ≢ End →
    next_standing s depth k (annotation_flag token.word.bytes.now) ≡ Some after → Takes (IsA k) (s, depth) after text from to
token-mark s after k next end kind some stands = token-takes (IsA k) s after k next end kind some stands (next.kind ∙ kind)

pub token-number : {text : List ℕ} {from depth to : ℕ} {token : Token} {n : ℕ} (s : Stage) (after : Stage × ℕ) →
    IsNext text from depth token → to ≡ piece_end token.word → token.value ≡ Some n →
    next_standing s depth Number (annotation_flag token.word.bytes.now) ≡ Some after →
    Takes (HasValue n) (s, depth) after text from to
token-number {token = token} {n = n} s after next end number stands = grind (arith, nat_tests, token-takes)

pub token-annotation : {text : List ℕ} {from depth to : ℕ} {token : Token} {flag : ℕ} (any : Bool) → IsNext text from depth token →
    to ≡ piece_end token.word → annotation_flag token.word.bytes.now ≡ Some flag →
    Takes (IsAnnotation flag) (in_annotations any, depth) (in_annotations true, depth) text from to
token-annotation {depth = depth} {token = token} {flag = flag} any next end known =
    let name = sym next.kind ∙ annotation-name token.word.bytes.now flag known in
    let stands : (b : Bool) → next_standing (in_annotations b) depth Name (Some flag) ≡ Some (in_annotations true, depth) =
    λ b. elim b as (λ b. next_standing (in_annotations b) depth Name (Some flag) ≡ Some (in_annotations true, depth)) [ true ↦ refl | false ↦ refl ] in
    token-takes (IsAnnotation flag) (in_annotations any) (in_annotations true, depth) Name next end name (λ e. cc) (rw known (stands any)) known

-- a token before a parsed part
pub parses-after : {X : Type 0} {F : Word → Type 0} {before middle : Stage × ℕ} {text : List ℕ} {from mid : ℕ}
    (P Q : X → List Word → Type 0) (after : Stage × ℕ) (r : Result (X × ℕ) FmdFault) →
    ((x : X) (v : List Word) → Then (One F) (P x) v → Q x v) → Takes F before middle text from mid →
    Parses P middle after text mid r → Parses Q before after text from r
parses-after P Q after (Ok (x, to)) wider word reads = reads-as (wider x) (reads-then word.reads reads)
parses-after P Q after (Err fault) wider word (inl memory) = inl memory
parses-after P Q after (Err fault) wider word (inr same) = inr (word.reads.same ∙ same)
