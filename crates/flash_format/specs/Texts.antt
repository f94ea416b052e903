-- Names and numbers as printed: this project's own texts.
use Rattle.std.specs.Prelude.{◌≡◌, ℕ, ◌+◌, ◌≤◌, ◌/◌, ◌%◌, false, not, ◌&&◌, List, [], ◌∷◌, ◌++◌, ◌==◌, if◌then◌else◌, unwrap_or}
use Rattle.std.specs.List.{flat_map}
use Rattle.std.specs.Fmt.{digits, digit_glyph}
use lib.Chars.{codes}
use Rattle.arrayvec.specs.ArrayVec.{ArrayVec, array_vec_len}
use Rattle.flash_format.specs.Flashmap.{is_printing}
use Rattle.flash_format.specs.TypeNames.{name_of_compression, name_of_type}

-- lower-case, without leading zeros
unfoldable pub hexadecimal : ℕ → List ℕ
hexadecimal n = codes "0x" ++ digits 16 false n

-- by name, or else by number
abbrev pub printed_type : ℕ → List ℕ
printed_type kind = unwrap_or (name_of_type kind) (hexadecimal kind)

abbrev pub printed_compression : ℕ → List ℕ
printed_compression n = unwrap_or (name_of_compression n) (hexadecimal n)

-- the byte, or `\x` and two digits for the backslash and non-printing bytes
unfoldable pub printed_byte : ℕ → List ℕ
printed_byte b = if is_printing b && not (b == 0x5c) then b ∷ []
    else codes "\\x" ++ digit_glyph false (b / 16) ∷ digit_glyph false (b % 16) ∷ []

abbrev pub printed_name : List ℕ → List ℕ
printed_name name = flat_map printed_byte name

abbrev pub tab : List ℕ
tab = codes "\t"

abbrev pub line_feed : List ℕ
line_feed = codes "\n"

-- appended, with an upper bound of the added length
pub record Pushes (old : ArrayVec ℕ) (text : List ℕ) (most : ℕ) (new : ArrayVec ℕ) : Type 0 where
  pub items : new.items ≡ old.items ++ text
  pub len : array_vec_len new ≤ array_vec_len old + most
