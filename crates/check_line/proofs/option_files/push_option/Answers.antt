use Rattle.std.proofs.Common.{◌≡◌, ◌<◌, ℕ, true, arith, sym}
use Rattle.std.proofs.lemmas.Bool.Decides.{nat_tests}
use Rattle.std.proofs.lemmas.List.Quantifiers.{position-Some}
use Rattle.std.proofs.lemmas.Str.{IsCharBoundary-before_ascii}
use Rattle.check_line.specs.OptionFiles.{is_blank}
use Rattle.check_line.proofs.option_files.push_option.Goals as goal

blank_is_ascii : (b : ℕ) → is_blank b ≡ true → b < 128
blank_is_ascii b blank = grind (arith, nat_tests, blank)

pub split_at-requires : goal.split_at-requires
split_at-requires c =
    let at = position-Some is_blank c.args.line.now c.in-Some.n 0 (sym c.in-Some.ensures) in
    IsCharBoundary-before_ascii c.args.line.now c.in-Some.n at.0 (blank_is_ascii _ at.1)
