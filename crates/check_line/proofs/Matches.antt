-- clap's result by the definitions.
use Rattle.std.proofs.Common.{◌≡◌, ◌<◌, ℕ, true, List, [], ◌∷◌, length, Bor, ap, subst, ◌∙◌, refl, arith}
use Rattle.clap.proofs.OnLiterals.{clap_on_literals}
use Rattle.clap.specs.Words.{App, HasMatchesOf, IsAmong, Kinds, fault_of, found_of, is_simple, is_simple_and_free, matches_of, rows_of}
use Rattle.clap.specs.declared.error.kind.ErrorKind.{ErrorKind}
use Rattle.clap.specs.declared.parser.matches.ArgMatches.{ArgMatches}
use Rattle.check_line.specs.CheckWords.{IsAccepted, IsRefusedFor, check_words, texts}

simple : (is_simple_and_free check_words ≡ true) × (is_simple check_words ≡ true)
unfolding clap_on_literals
simple = (refl, refl)

pub empty_is_accepted : IsAccepted []
unfolding clap_on_literals
empty_is_accepted = refl

-- a property of the faults of an equal command
pub by_faults : (P : Kinds → Type 0) (a : App) (words : List (Bor (List ℕ))) → a ≡ check_words
    → (is_simple_and_free a ≡ true → P (fault_of a (texts words))) → P (fault_of check_words (texts words))
by_faults P a words shape holds =
    subst (λ (a : App). P (fault_of a (texts words))) shape
    (holds (ap (λ (a : App). is_simple_and_free a) shape ∙ simple.0))

-- accepted arguments have the defined matches
pub matched : (a : App) (words : List (List ℕ)) (m : ArgMatches) → a ≡ check_words
    → HasMatchesOf a words m → rows_of (found_of m) ≡ matches_of check_words words
matched a words m shape matches =
    (matches (ap (λ (a : App). is_simple a) shape ∙ simple.1)).0
    ∙ ap (λ (a : App). matches_of a words) shape

pub some_word : (k : ErrorKind) (words : List (Bor (List ℕ))) → IsRefusedFor k words → 0 < length words
some_word k [] among = absurd (subst (λ (kinds : Kinds). IsAmong k kinds) empty_is_accepted among)
some_word k (w ∷ ws) among = omega arith
