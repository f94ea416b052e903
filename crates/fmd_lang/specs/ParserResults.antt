-- Tokens of the code, and the results of the parser's functions.
use Rattle.std.specs.Prelude.{◌≡◌, ◌≢◌, ℕ, ◌+◌, ◌<◌, ◌≤◌, ◌⊎◌, List, [], ◌∷◌, ◌++◌, length, Some}
use Rattle.std.specs.Prelude.{None, MatchOption, Result, Ok, Err}
use Rattle.fmd_lang.specs.Words.{Word, word, words_after, kind_of}
use Rattle.fmd_lang.specs.Faults.{Stage, fault_at, token_fault}
use Rattle.fmd_lang.specs.Grammar.{HasValue}
use Rattle.fmd_lang.specs.declared.word.Word.{Word as Piece}
use Rattle.fmd_lang.specs.declared.parser.Token.{Token}
use Rattle.fmd_lang.specs.declared.word.Kind.TheVariants.{Number}
use Rattle.fmd_lang.specs.declared.fault.FmdFault.{FmdFault}
use Rattle.fmd_lang.specs.declared.fault.FmdFault.TheVariants as faults

abbrev pub word_of : Piece → Word
word_of w = record { place = w.place; bytes = w.bytes.now }

-- the offset after a token
abbrev pub piece_end : Piece → ℕ
piece_end w = w.place + length w.bytes.now

-- the first token from an offset on, empty at the end
abbrev pub IsFirst : List ℕ → ℕ → Piece → Type 0
IsFirst text from w = ((words_after text from ≡ []) × (word_of w ≡ word (length text) []))
    ⊎ ((words_after text from ≡ word_of w ∷ words_after text (piece_end w))
    × (from ≤ w.place) × (w.place < piece_end w) × (piece_end w ≤ length text))

-- The tokens between two offsets have the form P and no fault, and take the parser from `before`
-- to `after`.
pub record ReadsTokens (P : List Word → Type 0) (before after : Stage × ℕ) (text : List ℕ)
    (from to : ℕ) : Type 0 where
  pub ahead : from ≤ to
  pub front : List Word
  pub split : words_after text from ≡ front ++ words_after text to
  pub form : P front
  pub same : fault_at text from before ≡ fault_at text to after

-- Success consumes faultless tokens of the form P of the value. An error is the first fault, or an
-- allocation failure.
abbrev pub Parses : {X : Type 0} → (X → List Word → Type 0) → Stage × ℕ → Stage × ℕ → List ℕ → ℕ
    → Result (X × ℕ) FmdFault → Type 0
Parses P before after text from (Ok (x, to)) = ReadsTokens (P x) before after text from to
Parses P before after text from (Err fault) =
    (fault ≡ faults.Memory) ⊎ (fault_at text from before ≡ Some fault)

-- the token at an offset
pub record IsNext (text : List ℕ) (from depth : ℕ) (token : Token) : Type 0 where
  pub first : IsFirst text from token.word
  pub kind : kind_of token.word.bytes.now ≡ token.kind
  pub clear : token_fault (kind_of token.word.bytes.now) depth (word_of token.word) ≡ None
  pub value : MatchOption token.value (token.kind ≢ Number) (λ n. HasValue n (word_of token.word))
