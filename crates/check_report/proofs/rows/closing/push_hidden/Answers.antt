use Rattle.std.proofs.Common.{◌≡◌, ℕ, zero, suc, ◌<◌, ◌++◌, arith, refl, append_assoc}
use Rattle.std.specs.Fmt.{decimal}
use lib.Chars.{codes}
use Rattle.check_report.specs.Reports.{hidden_remarks}
use Rattle.check_report.proofs.rows.closing.push_hidden.Goals as goal

many : (n : ℕ) → 1 < n → hidden_remarks n ≡ decimal n ++ codes " remarks are not shown: -v shows them\n"
many zero some = absurd (omega (arith, some))
many (suc zero) some = absurd (omega (arith, some))
many (suc (suc n)) some = refl

pub returns-in_ok-push_decimal-in_default : goal.returns-in_ok-push_decimal-in_default
returns-in_ok-push_decimal-in_default c = rw (many c.args.remarks (omega arith), ← append_assoc c.args.text.now.items (decimal c.args.remarks) (codes " remarks are not shown: -v shows them\n"), ← c.in_ok-push_decimal-in_default.ensures) c.push-in_default.ensures
