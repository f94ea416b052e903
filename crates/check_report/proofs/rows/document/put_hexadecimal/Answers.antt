use Rattle.std.proofs.Common.{◌∙◌, subst, sym, ℕ, ◌^◌, ◌<◌, List, [], ◌∷◌, IsAscii, IsUtf8, arith, false}
use Rattle.std.specs.Char.{digit_value}
use Rattle.std.specs.Fmt.{digits}
use Rattle.std.specs.Str.Parse.{AllDigits}
use Rattle.std.proofs.lemmas.Bool.Decides.{nat_tests}
use Rattle.std.proofs.lemmas.Fmt.{digits_is_IsNumeral}
use Rattle.std.proofs.lemmas.Str.{IsUtf8-from_ascii}
use Rattle.std.proofs.lemmas.Str.Ascii.{IsAscii-cons, IsAscii-nil}
use Rattle.flash_format.specs.Texts.{hexadecimal}
use Rattle.check_report.proofs.rows.document.put_hexadecimal.Goals as goal

digit_is_ascii : (c : ℕ) → digit_value c < 16 → c < 128
digit_is_ascii c digit = grind (arith, nat_tests)

digits_are_ascii : (ds : List ℕ) → AllDigits 16 ds → IsAscii ds
digits_are_ascii [] all = IsAscii-nil
digits_are_ascii (c ∷ cs) all = IsAscii-cons c cs (digit_is_ascii c all.0) (digits_are_ascii cs all.1)

hexadecimal_is_utf8 : (n : ℕ) → n < 2 ^ 64 → IsUtf8 (hexadecimal n)
unfolding hexadecimal
hexadecimal_is_utf8 n small = IsUtf8-from_ascii _ (IsAscii-cons 48 (120 ∷ digits 16 false n) (omega arith) (IsAscii-cons 120 (digits 16 false n) (omega arith)
    (digits_are_ascii (digits 16 false n) (digits_is_IsNumeral 16 false (omega arith) (omega arith) n (omega (arith, small))).0.1)))

pub unreachable-requires : goal.unreachable-requires
unreachable-requires c =
    c.in-Err.ensures.cases.0 (subst IsUtf8 (sym (c.as_slice.ensures.value ∙ c.hexadecimal-digits.ensures)) (hexadecimal_is_utf8 c.args.n c.ranges.n.fits))
