use Rattle.std.proofs.Common.{◌≡◌, ◌∙◌, ℕ, List, sym}
use Rattle.std.specs.Prelude.{MatchResult, Result, Ok, Err, is_ok}
use Rattle.std.specs.Str.{IsUtf8, is_utf8}
use Rattle.std.proofs.lemmas.Bool.{false_from_ne_true}
use Rattle.std.proofs.lemmas.Str.{IsUtf8-from_is_utf8, is_utf8-from_IsUtf8}
use Rattle.check_findings.proofs.map.findings.is_text.Goals as goal

decided : {X E : Type 0} (bs : List ℕ) (P : X → Type 0) (Q : E → Type 0) (r : Result X E) → MatchResult r (λ s. P s × IsUtf8 bs) (λ e. ¬ (IsUtf8 bs) × Q e) → is_ok r ≡ is_utf8 bs
decided bs P Q (Ok s) is = sym (is_utf8-from_IsUtf8 bs is.1)
decided bs P Q (Err e) is = sym (false_from_ne_true (is_utf8 bs) (λ yes. is.0 (IsUtf8-from_is_utf8 bs yes)))

pub returns : goal.returns
returns c = c.is_ok.ensures.value ∙ decided c.args.bytes.now _ _ c.from_utf8.result c.from_utf8.ensures.cases
