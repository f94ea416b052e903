-- The tokens of a text, and the values of numbers. The language and the suffixes are coreboot's
-- (Documentation/lib/flashmap.md), the exact bytes and the rest of numbers this project's own.
use Rattle.std.specs.Prelude.{ℕ, suc, nat_le, nat_eq, Bool, false, ◌&&◌, ◌||◌, not, if◌then◌else◌}
use Rattle.std.specs.Prelude.{drop, take, slice_index, length, List, [], ◌∷◌, codes, unwrap_or}
use Rattle.std.specs.Prelude.{◌-◌, ◌*◌, ◌^◌, nat_lt, Option, Some, None, option_map, Result, Ok}
use Rattle.std.specs.Prelude.{Err}
use Rattle.std.specs.Option.{option_map_or}
use Rattle.flash_format.specs.Numbers.{digits_value}
use Rattle.fmd_lang.specs.declared.fault.FmdFault.{FmdFault}
use Rattle.fmd_lang.specs.declared.fault.FmdFault.TheVariants as faults
use Rattle.std.specs.Map.{lookup}
use Rattle.std.specs.List.{list_any, take_while}
use Rattle.fmd_lang.specs.declared.word.Kind.{Kind}
use Rattle.fmd_lang.specs.declared.word.Kind.TheVariants.{Name, Number, OpenParen, CloseParen, At}
use Rattle.fmd_lang.specs.declared.word.Kind.TheVariants.{OpenBrace, CloseBrace, Bad, End}

-- space, tab, line feed, carriage return
abbrev pub is_blank : ℕ → Bool
is_blank b = list_any (nat_eq b) (32 ∷ 9 ∷ 10 ∷ 13 ∷ [])

-- The bytes of names and numbers: printable ASCII except the blank and `#@{}()`. So `-`, `.` and
-- `_` are plain.
abbrev pub is_plain : ℕ → Bool
is_plain b = (nat_le 0x21 b && nat_le b 0x7e) && not (list_any (nat_eq b) (codes "#@{}()"))

-- The text with spaces for comments, from `#` to the end of the line. The flag is set inside a
-- comment.
abbrev pub without_comments : Bool → List ℕ → List ℕ
without_comments inside [] = []
without_comments inside (b ∷ bs) = let comment = (inside || nat_eq b 35) && not (nat_eq b 10) in
    (if comment then 32 else b) ∷ without_comments comment bs

-- a token: the offset of its first byte in the text, and its bytes
pub record Word : Type 0 where
  pub place : ℕ
  pub bytes : List ℕ

abbrev pub word : ℕ → List ℕ → Word
word place bytes = record { place = place; bytes = bytes }

-- The tokens of the bytes from the offset `place` on: a punctuation mark, a longest sequence of
-- plain bytes, or a single invalid byte. A sequence is listed at its first byte: `inside` says that
-- the byte before was plain, so that the sequence is listed already.
abbrev pub words_from : ℕ → Bool → List ℕ → List Word
words_from place inside [] = []
words_from place inside (b ∷ bs) = let others = words_from (suc place) (is_plain b) bs in
    if is_blank b then others else (if not (is_plain b) then word place (b ∷ []) ∷ others
    else (if inside then others else word place (take_while is_plain (b ∷ bs)) ∷ others))

-- the kind of a token by its first byte; the token at the end of the text has no bytes
abbrev pub kind_of : List ℕ → Kind
kind_of [] = End
kind_of (b ∷ bs) = unwrap_or (lookup (nat_eq b)
    ((40, OpenParen) ∷ (41, CloseParen) ∷ (64, At) ∷ (123, OpenBrace) ∷ (125, CloseBrace) ∷ []))
    (if nat_le 48 b && nat_le b 57 then Number else (if is_plain b then Name else Bad))

-- the tokens from an offset on that lies in no token and in no comment
unfoldable pub words_after : List ℕ → ℕ → List Word
words_after text at = words_from at false (without_comments false (drop at text))

abbrev pub words : List ℕ → List Word
words text = words_after text 0

-- ---- numbers

-- The value of decimal digits without a leading zero, of a single `0`, or of `0x` and hexadecimal
-- digits, else none. Without a digit there is no value.
abbrev pub plain_value : List ℕ → Option ℕ
plain_value (b ∷ x ∷ ds) = if nat_eq b 48 then (if nat_eq x 120 then digits_value 16 ds else None)
    else digits_value 10 (b ∷ x ∷ ds)
plain_value bytes = digits_value 10 bytes

-- The value of a number with an optional suffix K, M or G. A number without it, or without bytes,
-- has its plain value.
unfoldable pub literal_value : List ℕ → Option ℕ
literal_value text = let last = length text - 1 in
    option_map_or (λ unit. option_map (λ n. n * unit) (plain_value (take last text)))
    (lookup (nat_eq (slice_index text last)) ((75, 1024) ∷ (77, 1048576) ∷ (71, 1073741824) ∷ []))
    (plain_value text)

-- the value below 2^32, or the fault
abbrev pub number_at : ℕ → Option ℕ → Result ℕ FmdFault
number_at at None = Err (faults.BadNumber at)
number_at at (Some n) = if nat_lt n (2 ^ 32) then Ok n else Err (faults.NumberTooLarge at)
