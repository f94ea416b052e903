-- The request of the arguments, and its steps.
use Rattle.std.specs.Prelude.{ℕ, List, [], ◌∷◌, Result, Ok, Err}
use Rattle.std.specs.Borrow.{Bor}
use Rattle.fmap_steps.specs.declared.failure.Failure.{Failure}
use Rattle.fmap_steps.specs.declared.failure.Failure.TheVariants as failures
use Rattle.fmap_steps.specs.declared.line.Invocation.{Invocation}
use Rattle.fmap_steps.specs.declared.line.Invocation.TheVariants.{Usage, Compile}
use Rattle.fmap_steps.specs.declared.steps.Step.{Step}
use Rattle.fmap_steps.specs.declared.steps.Step.TheVariants.{PrintUsage, OpenInput, IdentifyInput, MakeOutput, Run, WriteOutput}

abbrev pub Words : Type 0
Words = List (Bor (List ℕ))

-- INPUT and OUTPUT; the usage without arguments
abbrev pub invocation_of : Words → Result Invocation Failure
invocation_of [] = Ok Usage
invocation_of (input ∷ output ∷ []) = Ok (Compile input output)
invocation_of words = Err failures.Usage

-- INPUT is opened before OUTPUT is created, and OUTPUT is created before the descriptor is read
abbrev pub steps_of : Invocation → List Step
steps_of Usage = PrintUsage ∷ []
steps_of (Compile input output) =
    OpenInput ∷ IdentifyInput ∷ MakeOutput ∷ Run ∷ WriteOutput ∷ []
