-- The first fault of a text: excessive length, or the lowest offset; at the same offset, a
-- malformed token precedes an unexpected token. Order, messages and limits are this project's own.
use Rattle.std.specs.Prelude.{◌≡◌, ◌⊎◌, Result, Ok, Err, ℕ, suc, zero, nat_le, nat_lt, Bool, true}
use Rattle.std.specs.Prelude.{false, if◌then◌else◌, List, [], ◌∷◌, ◌++◌, length, Option, Some}
use Rattle.std.specs.Prelude.{None}
use Rattle.std.specs.Bool.{then_some}
use Rattle.std.specs.Option.{option_map_or, option_or}
use Rattle.std.specs.Result.{result_err}
use Rattle.fmd_lang.specs.Words.{Word, word, words_after, kind_of, number_at, literal_value}
use Rattle.fmd_lang.specs.Grammar.{annotation_flag}
use Rattle.fmd_lang.specs.declared.word.Kind.{Kind}
use Rattle.fmd_lang.specs.declared.word.Kind.TheVariants.{Name, Number, OpenParen, CloseParen, At}
use Rattle.fmd_lang.specs.declared.word.Kind.TheVariants.{OpenBrace, CloseBrace, Bad, End}
use Rattle.fmd_lang.specs.declared.fault.FmdFault.{FmdFault}
use Rattle.fmd_lang.specs.declared.fault.FmdFault.TheVariants as faults
use Rattle.fmd_lang.specs.declared.fault.Expected.{Expected}
use Rattle.fmd_lang.specs.declared.fault.Expected.TheVariants as wanted

-- the parser's state between tokens
pub data Stage : Type 0 where
  start : Stage  -- before the first token
  in_annotations : Bool → Stage  -- after `(`; the flag is set after an annotation
  at_sign : Stage  -- after `@`
  past : ℕ → Stage  -- in or after a section; counts the optional parts already passed

-- The state and the number of open braces after a token, None after an unexpected token. A name is
-- followed by annotations, offset, size and braces, in this order.
abbrev pub next_standing : Stage → ℕ → Kind → Option ℕ → Option (Stage × ℕ)
next_standing start depth Name flag = Some (past 0, depth)
next_standing (in_annotations true) depth CloseParen flag = Some (past 1, depth)
next_standing (in_annotations any) depth k (Some flag) = Some (in_annotations true, depth)
next_standing at_sign depth Number flag = Some (past 2, depth)
next_standing (past n) depth OpenParen flag = then_some (nat_lt n 1) (in_annotations false, depth)
next_standing (past n) depth At flag = then_some (nat_lt n 2) (at_sign, depth)
next_standing (past n) depth Number flag = then_some (nat_lt n 3) (past 3, depth)
next_standing (past n) depth OpenBrace flag = then_some (nat_lt n 4) (past 4, suc depth)
next_standing (past n) (suc depth) Name flag = Some (past 0, suc depth)
next_standing (past n) (suc depth) CloseBrace flag = Some (past 4, depth)
next_standing (past n) zero End flag = Some (past 4, zero)
next_standing s depth k flag = None

-- the expected token
abbrev pub wanted_at : Stage → ℕ → Kind → Expected
wanted_at start depth k = wanted.Section
wanted_at (in_annotations false) depth k = wanted.Annotation
wanted_at (in_annotations true) depth Name = wanted.Annotation
wanted_at (in_annotations true) depth k = wanted.CloseParen
wanted_at at_sign depth k = wanted.Number
wanted_at (past n) zero k = wanted.End
wanted_at (past n) (suc depth) k = wanted.SectionOrClose

-- The fault of a token, regardless of the grammar: at most 32 braces are open, and a name has at
-- most 31 bytes.
abbrev pub token_fault : Kind → ℕ → Word → Option FmdFault
token_fault Bad depth w = Some (faults.BadByte w.place)
token_fault Number depth w = result_err (number_at w.place (literal_value w.bytes))
token_fault Name depth w = then_some (nat_lt 31 (length w.bytes)) (faults.NameTooLong w.place)
token_fault OpenBrace depth w = then_some (nat_le 32 depth) faults.TooDeep
token_fault k depth w = None

-- The first fault of the tokens, from a state and a number of open braces on. It is the fault of
-- the first token alone. Without one, it is that of the later tokens in the next state, or an
-- unexpected token if there is no next state.
abbrev pub fault_from : Stage × ℕ → List Word → Option FmdFault
fault_from there [] = None
fault_from (s, depth) (w ∷ ws) = let k = kind_of w.bytes in
    option_or (token_fault k depth w) (option_map_or (λ t. fault_from t ws)
    (next_standing s depth k (annotation_flag w.bytes))
    (Some (faults.Expected w.place (wanted_at s depth k))))

-- the first fault of a text's tokens from an offset on, including the end
abbrev pub fault_at : List ℕ → ℕ → Stage × ℕ → Option FmdFault
fault_at text from there = fault_from there (words_after text from ++ word (length text) [] ∷ [])

-- the maximum length of a text, in bytes
abbrev pub text_limit : ℕ
text_limit = 1048576

unfoldable pub first_fault : List ℕ → Option FmdFault
first_fault text = if nat_lt text_limit (length text) then Some faults.TextTooLong
    else fault_at text 0 (start, 0)

-- success implies no fault; an error is the given fault, or an allocation failure
abbrev pub FailsWith : {X : Type 0} → Option FmdFault → Result X FmdFault → Type 0
FailsWith refusal (Ok x) = refusal ≡ None
FailsWith refusal (Err fault) = (fault ≡ faults.Memory) ⊎ (refusal ≡ Some fault)

-- the exact value or error, or an allocation failure
abbrev pub IsExact : {X Y : Type 0} → Result Y FmdFault → (X → Y) → Result X FmdFault → Type 0
IsExact exact value (Ok x) = exact ≡ Ok (value x)
IsExact exact value (Err fault) = (fault ≡ faults.Memory) ⊎ (exact ≡ Err fault)
