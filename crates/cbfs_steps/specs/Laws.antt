-- Laws of steps.
use Rattle.std.specs.Prelude.{◌≡◌, ◌⊎◌, ℕ, Bool, true, false, List, [], ◌∷◌, Ok, Err}
use Rattle.flash_device.specs.Device.{Device}
use Rattle.flash_store.specs.declared.os_file.Lock.TheVariants.{Shared, Exclusive}
use Rattle.cbfs_edit.specs.declared.addition.HashChoice.{HashChoice}
use Rattle.cbfs_edit.specs.declared.place.Spot.{Spot}
use Rattle.cbfs_requests.specs.Requests.{Request, layout, on_region, print, extract, add, remove}
use Rattle.cbfs_requests.specs.Requests.{read, write, create}
use Rattle.cbfs_requests.specs.declared.refusal.Refusal.{Refusal}
use Rattle.cbfs_requests.specs.declared.refusal.Refusal.TheVariants as refusals
use Rattle.cbfs_commands.specs.Effects.{effect}
use Rattle.cbfs_steps.specs.declared.steps.FileUse.TheVariants.{Unused, Output}
use Rattle.cbfs_steps.specs.declared.steps.Step.{Step}
use Rattle.cbfs_steps.specs.declared.steps.Step.TheVariants.{OpenImage, OpenInput, MakeOutput, CreateImage, Run, Unlock, WriteOutput, Store}
use Rattle.cbfs_steps.specs.declared.progress.Progress.TheVariants.{Going, RunRefused}
use Rattle.cbfs_steps.specs.Progresses.{Answer, steps_taken, answer_of, progress_after}
use Rattle.cbfs_steps.specs.Steps.{steps_of, lock_of, file_use}

-- the steps of the eight commands, written out
pub record StepsAreInOrder : Type 0 where
  pub print_steps : (region : List ℕ) (verbose : Bool) → steps_of (on_region region (print verbose))
      ≡ OpenImage Shared ∷ Run ∷ Unlock ∷ WriteOutput ∷ []
  pub layout_steps : steps_of layout ≡ OpenImage Shared ∷ Run ∷ Unlock ∷ WriteOutput ∷ []
  pub extract_steps : (region name : List ℕ) → steps_of (on_region region (extract name))
      ≡ OpenImage Shared ∷ MakeOutput ∷ Run ∷ WriteOutput ∷ []
  pub add_steps : (region name : List ℕ) (kind : ℕ) (hash : HashChoice) (spot : Spot)
      → steps_of (on_region region (add name kind hash spot))
      ≡ OpenImage Exclusive ∷ OpenInput ∷ Run ∷ Store ∷ []
  pub remove_steps : (region name : List ℕ) → steps_of (on_region region (remove name))
      ≡ OpenImage Exclusive ∷ Run ∷ Store ∷ []
  pub read_steps : (region : List ℕ) → steps_of (on_region region read)
      ≡ OpenImage Shared ∷ MakeOutput ∷ Run ∷ WriteOutput ∷ []
  pub write_steps : (region : List ℕ) → steps_of (on_region region write)
      ≡ OpenImage Exclusive ∷ OpenInput ∷ Run ∷ Store ∷ []
  pub create_steps : (regions : List (List ℕ)) → steps_of (create regions)
      ≡ OpenInput ∷ CreateImage ∷ Run ∷ Store ∷ []

-- the meaning of commands has the same locks and files
pub record UsesAreThoseOfCommands : Type 0 where
  pub shared : (request : Request) → lock_of request ≡ Shared → (image source : List ℕ)
      → ((effect request).outcome image source).image ≡ image
  pub prints : (request : Request) → ((lock_of request ≡ Shared) × ((effect request).prints ≡ true))
      ⊎ ((lock_of request ≡ Exclusive) × ((effect request).prints ≡ false))
  pub unread : (request : Request) → (file_use request ≡ Unused) ⊎ (file_use request ≡ Output)
      → (source : Device) → (effect request).source_calls source ≡ 0

-- the answers of a command whose step is refused
abbrev pub refused_at : Step → Refusal → Step → Answer
refused_at Run refusal Run = Err refusal
refused_at MakeOutput refusal MakeOutput = Err refusal
refused_at WriteOutput refusal WriteOutput = Err refusal
refused_at step refusal other = Ok tt

-- examples
pub record RefusalsEndCommands : Type 0 where
  pub listing : (refusal : Refusal) → steps_taken (refused_at Run refusal) Going (steps_of layout)
      ≡ OpenImage Shared ∷ Run ∷ Unlock ∷ WriteOutput ∷ []
  pub change : (region : List ℕ) (refusal : Refusal)
      → steps_taken (refused_at Run refusal) Going (steps_of (on_region region write))
      ≡ OpenImage Exclusive ∷ OpenInput ∷ Run ∷ []
  pub output : (region : List ℕ) (refusal : Refusal)
      → steps_taken (refused_at MakeOutput refusal) Going (steps_of (on_region region read))
      ≡ OpenImage Shared ∷ MakeOutput ∷ []
  pub first : (refusal : Refusal)
      → answer_of (progress_after (RunRefused refusal) WriteOutput (Err refusals.Output))
      ≡ Err refusal
