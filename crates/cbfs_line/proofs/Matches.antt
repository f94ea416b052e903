-- The line of clap's matches.
use Rattle.std.proofs.Common.{◌≡◌, ℕ, true, List, [], Option, Some, None, refl, sym, ap, ◌∙◌, subst, inl, inr}
use Rattle.std.specs.Option.{option_map}
use Rattle.clap.proofs.OnLiterals.{clap_on_literals}
use Rattle.clap.specs.Words.{App, HasKind, IsAmong, Kinds, Row, fault_of, is_simple, is_simple_and_free, kind_of}
use Rattle.clap.specs.declared.error.kind.ErrorKind.{ErrorKind}
use Rattle.clap.specs.declared.error.Error.{Error}
use Rattle.clap.specs.declared.error.kind.ErrorKind.TheVariants.{OutOfMemory}
use Rattle.cbfs_line.specs.Subcommands.{command_line}
use Rattle.cbfs_line.specs.CommandLine.{Texts, with_image}

abbrev pub pair_of : List ℕ → List Row → List ℕ × List Row
pair_of name rows = (name, rows)

-- the subcommand by its name and rows
pub met : {B : Type 0} (name : B → List ℕ) (rows : B → List Row) (o : Option B) (n : List ℕ) (r : List Row) → Some n ≡ option_map name o
    → Some r ≡ option_map (λ p. p.1) (option_map (λ b. pair_of (name b) (rows b)) o) → option_map (λ b. pair_of (name b) (rows b)) o ≡ Some (pair_of n r)
met name rows None n r e f = absurd cc
met name rows (Some b) n r e f =
    let same : n ≡ name b = cc in
    let all : r ≡ rows b = cc in
    ap (λ (x : List ℕ). Some (pair_of x (rows b))) (sym same) ∙ ap (λ (x : List Row). Some (pair_of n x)) (sym all)

-- the line of an image and a subcommand
pub line-is : (image n : List ℕ) (r : List Row) (o : Option (List ℕ × List Row)) → o ≡ Some (pair_of n r)
    → (let l : Texts = record { image = image; subcommand = n; options = r } in Some l) ≡ option_map (with_image image) o
line-is image n r o e = rw e refl

-- clap reports every fault of the command line
pub simple : is_simple_and_free command_line ≡ true
unfolding clap_on_literals
simple = refl

pub simple_shape : is_simple command_line ≡ true
unfolding clap_on_literals
simple_shape = refl

-- without a fault, only an allocation can fail
pub faultless : (kinds : Kinds) (e : Error) → HasKind kinds e → kinds ≡ [] → kind_of e ≡ OutOfMemory
faultless kinds e (inl memory) none = memory
faultless kinds e (inr among) none = absurd (subst (λ (k : Kinds). IsAmong (kind_of e) k) none among)

-- a property of the faults of an equal command
pub by_faults : (P : Kinds → Type 0) (a : App) (words : List (List ℕ)) → a ≡ command_line
    → (is_simple_and_free a ≡ true → P (fault_of a words)) → P (fault_of command_line words)
by_faults P a words shape holds =
    subst (λ (a : App). P (fault_of a words)) shape
    (holds (ap (λ (a : App). is_simple_and_free a) shape ∙ simple))

-- another kind than that of an allocation failure is one of the faults
pub among_unless_memory : (kinds : Kinds) (e : Error) (k : ErrorKind) → k ≡ kind_of e → HasKind kinds e
    → (k ≡ OutOfMemory → ⊥) → IsAmong k kinds
among_unless_memory kinds e k is (inl memory) not = absurd (not (is ∙ memory))
among_unless_memory kinds e k is (inr among) not = subst (λ (k : ErrorKind). IsAmong k kinds) (sym is) among
