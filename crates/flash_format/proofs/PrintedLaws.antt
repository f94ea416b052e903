-- Printed names and numbers decode.
use Rattle.std.proofs.Common.{◌≡◌, ◌≢◌, ℕ, ◌/◌, ◌%◌, ◌^◌, ◌<◌, ◌≤◌, Bool, true, false, not, ◌&&◌, cond, nat_le, eqb, List, [], ◌∷◌, ◌++◌, refl, sym, ap, ◌∙◌, arith}
use Rattle.std.specs.Char.{digit_value}
use Rattle.std.specs.Fmt.{decimal, digits, digit_glyph}
use Rattle.std.specs.Str.Parse.{AllDigits}
use Rattle.std.specs.Str.Parse as parse
use Rattle.std.proofs.lemmas.Bool.Decides.{nat_tests}
use Rattle.std.proofs.lemmas.Fmt.{decimal_injective, decimal_is_IsNumeral, digits_is_IsNumeral}
use Rattle.std.proofs.lemmas.List.Folds.{list_all-append}
use Rattle.flash_format.specs.Flashmap.{is_printing}
use Rattle.flash_format.specs.Texts.{hexadecimal, printed_byte, printed_name}
use Rattle.flash_format.proofs.TypeLaws.{is_field}

-- ---- fields

-- two fields which end at the same byte, in neither field, are equal, and so is the rest
pub split : (c : ℕ) (a b s t : List ℕ) → c < 32 → is_field a ≡ true → is_field b ≡ true → a ++ c ∷ s ≡ b ++ c ∷ t → (a ≡ b) × (s ≡ t)
split c [] [] s t low fa fb e = (refl, cc)
split c [] (y ∷ b) s t low fa fb e = let same : c ≡ y = cc in absurd (grind (arith, nat_tests))
split c (x ∷ a) [] s t low fa fb e = let same : x ≡ c = cc in absurd (grind (arith, nat_tests))
split c (x ∷ a) (y ∷ b) s t low fa fb e = grind (arith, nat_tests, split c a b s t low)

-- ---- names

abbrev shown : Bool → ℕ → List ℕ
shown is_plain b = cond is_plain (b ∷ []) (92 ∷ 120 ∷ digit_glyph false (b / 16) ∷ digit_glyph false (b % 16) ∷ [])

glyph_injective : (d e : ℕ) → digit_glyph false d ≡ digit_glyph false e → d ≡ e
glyph_injective d e same = grind (arith, nat_tests)

by_tests : (x y : ℕ) (s t : List ℕ) (p q : Bool) → (p ≡ true → x ≢ 92) → (q ≡ true → y ≢ 92) → shown p x ++ s ≡ shown q y ++ t → (x ≡ y) × (s ≡ t)
by_tests x y s t true true hx hy e = (cc, cc)
by_tests x y s t true false hx hy e = let same : x ≡ 92 = cc in absurd (hx refl same)
by_tests x y s t false true hx hy e = let same : y ≡ 92 = cc in absurd (hy refl same)
by_tests x y s t false false hx hy e = grind (arith, glyph_injective)

plain_is_no_backslash : (b : ℕ) → (is_printing b && not (eqb b 92)) ≡ true → b ≢ 92
plain_is_no_backslash b plain is = grind (arith, nat_tests)

same_byte : (x y : ℕ) (s t : List ℕ) → printed_byte x ++ s ≡ printed_byte y ++ t → (x ≡ y) × (s ≡ t)
unfolding printed_byte
same_byte x y s t e = by_tests x y s t _ _ (plain_is_no_backslash x) (plain_is_no_backslash y) e

some_bytes : (x : ℕ) (s : List ℕ) → [] ≢ printed_byte x ++ s
unfolding printed_byte
some_bytes x s = grind (arith, nat_tests)

pub same_names : (a b : List ℕ) → printed_name a ≡ printed_name b → a ≡ b
same_names [] [] e = refl
same_names [] (y ∷ b) e = absurd (some_bytes y (printed_name b) e)
same_names (x ∷ a) [] e = absurd (some_bytes x (printed_name a) (sym e))
same_names (x ∷ a) (y ∷ b) e =
    let parts = same_byte x y (printed_name a) (printed_name b) e in
    grind (arith, same_names a b parts.1)

byte_field : (b : ℕ) → is_field (printed_byte b) ≡ true
unfolding printed_byte
byte_field b = grind (arith, nat_tests)

pub name_field : (name : List ℕ) → is_field (printed_name name) ≡ true
name_field [] = refl
name_field (b ∷ name) = list_all-append (nat_le 32) (printed_byte b) (printed_name name) ∙ rw (byte_field b, name_field name) refl

-- ---- numbers

digit_is_field : (c radix : ℕ) → radix ≤ 16 → digit_value c < radix → nat_le 32 c ≡ true
digit_is_field c radix few digit = grind (arith, nat_tests)

digits_field : (radix : ℕ) (ds : List ℕ) → radix ≤ 16 → AllDigits radix ds → is_field ds ≡ true
digits_field radix [] few all = refl
digits_field radix (c ∷ ds) few all = rw (digit_is_field c radix few all.0, digits_field radix ds few all.1) refl

hex_numeral : (n : ℕ) → n < 2 ^ 64 → parse.IsNumeral 16 (digits 16 false n) × (parse.digits_value 16 (digits 16 false n) ≡ n)
hex_numeral n small = digits_is_IsNumeral 16 false (omega arith) (omega arith) n (omega arith)

pub hexadecimal_field : (n : ℕ) → n < 2 ^ 64 → is_field (hexadecimal n) ≡ true
unfolding hexadecimal
hexadecimal_field n small = digits_field 16 (digits 16 false n) (omega arith) (hex_numeral n small).0.1

pub same_hexadecimals : (m n : ℕ) → m < 2 ^ 64 → n < 2 ^ 64 → hexadecimal m ≡ hexadecimal n → m ≡ n
unfolding hexadecimal
same_hexadecimals m n small_m small_n e =
    let same : digits 16 false m ≡ digits 16 false n = cc in
    sym (hex_numeral m small_m).1 ∙ ap (parse.digits_value 16) same ∙ (hex_numeral n small_n).1

pub decimal_field : (n : ℕ) → n < 2 ^ 64 → is_field (decimal n) ≡ true
decimal_field n small = digits_field 10 (decimal n) (omega arith) (decimal_is_IsNumeral n small).0.1

pub same_decimals : (m n : ℕ) → m < 2 ^ 64 → n < 2 ^ 64 → decimal m ≡ decimal n → m ≡ n
same_decimals m n small_m small_n e = decimal_injective m n small_m small_n e
