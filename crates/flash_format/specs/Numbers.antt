-- Numbers as text: decimal digits, or `0x` and hexadecimal digits of either case. This project's
-- rules: leading zeros, no sign, no suffix, and a value below 2^32.
use Rattle.std.specs.Prelude.{ℕ, ◌^◌, nat_eq, nat_lt, ◌&&◌, if◌then◌else◌, List, drop, length, Option}
use Rattle.std.specs.Bool.{then_some}
use Rattle.std.specs.Char.{is_digit}
use Rattle.std.specs.List.{starts_with, list_all}
use Rattle.std.specs.Option.{option_and_then}
use Rattle.std.specs.Str.Parse as parse
use lib.Chars.{codes}

-- at least one digit, and no other byte
abbrev pub digits_value : ℕ → List ℕ → Option ℕ
digits_value base text = let digits = list_all (λ b. is_digit b base) text in
    then_some (nat_lt 0 (length text) && digits) (parse.digits_value base text)

unfoldable pub number_of : List ℕ → Option ℕ
number_of text = let is_hexadecimal = starts_with nat_eq text (codes "0x") in
    let value = if is_hexadecimal then digits_value 16 (drop 2 text) else digits_value 10 text in
    option_and_then (λ n. then_some (nat_lt n (2 ^ 32)) n) value
