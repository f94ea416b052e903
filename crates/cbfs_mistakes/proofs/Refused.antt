-- Which arguments are refused, and by which kind.
use Rattle.std.proofs.Common.{◌≡◌, ◌≢◌, ◌<◌, ◌==◌, ◌-◌, ℕ, true, List, [], ◌∷◌, length, Bor, Some, None, Option, Result, Ok, Err, subst, sym, ap, ◌∙◌, refl, inl, inr, arith, rules, tests}
use Rattle.std.specs.Prelude.{IfOk, drop, is_err, is_some, slice_get, zero, suc, if◌then◌else◌}
use Rattle.std.specs.Option.{option_map_or}
use Rattle.clap.proofs.OnLiterals.{clap_on_literals}
use Rattle.clap.specs.Words.{IsAmong, Kinds, fault_of}
use Rattle.clap.specs.declared.error.kind.ErrorKind.{ErrorKind}
use Rattle.clap.specs.declared.error.kind.ErrorKind.TheVariants.{MissingSubcommand}
use Rattle.cbfs_requests.specs.Requests.{Request}
use Rattle.cbfs_requests.specs.declared.refusal.Refusal.{Refusal}
use Rattle.cbfs_requests.specs.declared.refusal.Refusal.TheVariants as refusals
use Rattle.cbfs_line.specs.Subcommands.{command_line}
use Rattle.cbfs_line.specs.CommandLine.{Texts, command_in, command_of, texts_of}
use Rattle.cbfs_mistakes.specs.Lines.{Cause, cause_of}
use Rattle.cbfs_mistakes.specs.Mistakes.{Names}
use Rattle.cbfs_mistakes.specs.WrongWords.{IsRefusedFor, Spares, Words, previous, texts}
use Rattle.cbfs_mistakes.specs.declared.mistake.Mistake.{Mistake}
use Rattle.cbfs_mistakes.proofs.Causes.{exact}

-- without an argument, only the command is missing
missing : fault_of command_line [] ≡ MissingSubcommand ∷ []
unfolding clap_on_literals
missing = refl

only : (k : ErrorKind) (kinds : Kinds) → kinds ≡ MissingSubcommand ∷ [] → IsAmong k kinds → k ≡ MissingSubcommand
only k kinds is among = elim (subst (λ (kinds : Kinds). IsAmong k kinds) is among) [
  | inl same ↦ same
  | inr none ↦ absurd none
]

-- another refusal has an argument
pub some_word : (k : ErrorKind) (words : List (Bor (List ℕ))) → k ≢ MissingSubcommand → IsRefusedFor k words → 0 < length words
some_word k [] named among = absurd (named (only k (fault_of command_line []) missing among))
some_word k (w ∷ ws) named among = omega arith

pub none_is_spared : (k : ErrorKind) → k ≢ MissingSubcommand → Spares k []
none_is_spared k named = inr (MissingSubcommand, (λ same. named (sym same)), subst (λ (kinds : Kinds). IsAmong MissingSubcommand kinds) (sym missing) (inl refl))

-- a line with a fault is no command
refused_by : (k : ErrorKind) (kinds : Kinds) (r : Result Request Refusal) → IsAmong k kinds
    → is_err (if length kinds == 0 then r else Err refusals.Usage) ≡ true
refused_by k [] r among = absurd among
refused_by k (x ∷ xs) r among = search (rules, tests)

pub refused_is_err : (k : ErrorKind) (image : List ℕ) (rest : List (List ℕ)) → IsAmong k (fault_of command_line rest)
    → is_err (command_in (image ∷ rest)) ≡ true
refused_is_err k image rest among = refused_by k (fault_of command_line rest) _ among

accepted_by : (kinds : Kinds) (r : Result Request Refusal) → kinds ≡ [] → (if length kinds == 0 then r else Err refusals.Usage) ≡ r
accepted_by kinds r none = rw none refl

-- a line without a fault is the command of its options
accepted_is : (image : List ℕ) (rest : List (List ℕ)) (t : Texts) → fault_of command_line rest ≡ []
    → Some t ≡ texts_of (image ∷ rest) → command_in (image ∷ rest) ≡ command_of t
accepted_is image rest t none is =
    accepted_by (fault_of command_line rest) _ none
    ∙ ap (λ (o : Option Texts). option_map_or command_of o (Err refusals.Usage)) (sym is)

-- a mistake is found exactly for a cause
named_is_some : (c : Option Cause) (m : Option Mistake) → Names c m → is_some m ≡ is_some c
named_is_some None None names = refl
named_is_some None (Some m) names = absurd cc
named_is_some (Some c) None names = absurd cc
named_is_some (Some c) (Some m) names = refl

-- of an accepted line, a mistake is found exactly if it is no command
pub exactly : (words : Words) (t : Texts) (m : Option Mistake) → fault_of command_line (texts (drop 1 words)) ≡ []
    → Some t ≡ texts_of (texts words) → Names (cause_of t) m → is_some m ≡ is_err (command_in (texts words))
exactly [] t m none is names = absurd cc
exactly (image ∷ rest) t m none is names =
    named_is_some (cause_of t) m names
    ∙ (exact t ∙ ap (λ (r : Result Request Refusal). is_err r) (sym (accepted_is image.now (texts rest) t none is)))

pub on_ok : {T E : Type 0} (P Q : T → Type 0) (r : Result T E) → ((v : T) → P v → Q v) → IfOk r P → IfOk r Q
on_ok P Q (Ok v) f p = f v p
on_ok P Q (Err e) f p = p

-- the argument before a later one
pub previous_is : (words : Words) (n : ℕ) → 0 < n → previous words n ≡ slice_get words (n - 1)
previous_is words zero later = absurd (omega (arith, later))
previous_is words (suc n) later = ap (λ (k : ℕ). slice_get words k) (omega arith)
