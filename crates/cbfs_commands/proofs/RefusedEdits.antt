-- A region after a refused edit.
use Rattle.std.proofs.Common.{arith}
use Rattle.std.proofs.lemmas.Grind.{common_steps}
use Rattle.std.proofs.Common.{◌≡◌, ◌≢◌, ◌⊎◌, inl, inr, refl, ℕ, List, Result, Ok, Err, IsErrOf, IsTrue}
use Rattle.std.specs.Result.{IsErrAnd}
use Rattle.flash_device.specs.Device.{Device}
use Rattle.flash_device.specs.Regions.{Range, bytes_in}
use Rattle.flash_map.specs.Regions.{region_of}
use Rattle.flash_map.specs.declared.search.StoreFault.{StoreFault}
use Rattle.flash_map.specs.declared.search.StoreFault.TheVariants as store
use Rattle.cbfs_edit.specs.declared.addition.HashChoice.{HashChoice}
use Rattle.cbfs_edit.specs.declared.fault.EditFault.{EditFault}
use Rattle.cbfs_edit.specs.declared.fault.EditFault.TheVariants as edit
use Rattle.cbfs_edit.specs.declared.place.Spot.{Spot}
use Rattle.cbfs_edit.specs.Additions.{NewComponent, addition_in, new_component}
use Rattle.cbfs_edit.specs.Removals.{removal_in}
use Rattle.cbfs_edit.specs.Changes.{IsAddition, AddLeavesBefore, AddLeavesWhole, LeavesWhole, IsRemoval}
use Rattle.cbfs_requests.specs.declared.refusal.Refusal.TheVariants as refusals
use Rattle.cbfs_commands.specs.Effects.{effect}
use Rattle.cbfs_requests.specs.Requests.{IsFault, add, edit_refusal, on_region, remove}
use Rattle.cbfs_commands.specs.Outcomes.{Outcome}
use Rattle.cbfs_commands.specs.Outcomes.{CommandResult}

-- the answer and the image of an outcome, or a fault
abbrev pub LeavesOr : List ℕ → CommandResult → Outcome → Type 0
LeavesOr now answer o = ((answer ≡ o.printout.answer) × (now ≡ o.image)) ⊎ IsFault answer

-- the failed device or source, or an error of the edit itself
abbrev ByFault : EditFault → Type 0 → Type 0 → Type 0 → Type 0
ByFault fault D S O = ((fault ≡ edit.Device) × D) ⊎ (((fault ≡ edit.Source) × S) ⊎ ((fault ≢ edit.Device) × (fault ≢ edit.Source) × O))

addition_by : (region : Range) (with_content : List ℕ → NewComponent) (spot : Spot) (source : Device) (fault : EditFault) (old now : List ℕ) → IsAddition region with_content spot source (Err fault) old now
    → ByFault fault (IsTrue source.honest → AddLeavesWhole (bytes_in region old) (with_content source.content) spot (bytes_in region now)) (AddLeavesBefore (bytes_in region old) (with_content source.content) spot (bytes_in region now))
    ((addition_in (bytes_in region old) (with_content source.content) spot ≡ Err fault) × (now ≡ old))
addition_by region with_content spot source edit.Device old now d = inl (refl, d)
addition_by region with_content spot source edit.Source old now s = inr (inl (refl, s))
addition_by region with_content spot source fault old now o = inr (inr (λ is. cc, λ is. cc, o))

removal_by : (region : Range) (name : List ℕ) (fault : EditFault) (old now : List ℕ) → IsRemoval region name (Err fault) old now
    → ByFault fault (LeavesWhole (bytes_in region old) name (bytes_in region now)) ⊥ ((removal_in (bytes_in region old) name ≡ Err fault) × (now ≡ old))
removal_by region name edit.Device old now d = inl (refl, d)
removal_by region name edit.Source old now s = inr (inl (refl, s))
removal_by region name fault old now o = inr (inr (λ is. cc, λ is. cc, o))

-- a found region: the answer is the edit's error, and only a fault leaves a change
module _ (image between now name : List ℕ) (source : Device) (region : Range) (fault : EditFault) (answer : CommandResult) (sought : (let r : Result Range StoreFault = Ok region in IsErrOf r store.Device ⊎ (r ≡ region_of image name))) (unread : between ≡ image) (printout : IsErrAnd answer (λ refusal. refusal ≡ edit_refusal fault)) where
  pub addition_refused : (component : List ℕ) (kind : ℕ) (hash : HashChoice) (spot : Spot) → IsTrue source.honest → IsAddition region (new_component component kind hash) spot source (Err fault) between now
      → LeavesOr now answer ((effect (on_region name (add component kind hash spot))).outcome image source.content)
      × ((found : Range) → region_of image name ≡ Ok found → (IsErrOf answer refusals.Device → AddLeavesWhole (bytes_in found image) (new_component component kind hash source.content) spot (bytes_in found now))
      × (IsErrOf answer refusals.Source → AddLeavesBefore (bytes_in found image) (new_component component kind hash source.content) spot (bytes_in found now)))
  addition_refused component kind hash spot honest adds =
      let by = addition_by region (new_component component kind hash) spot source fault between now adds in grind (arith, common_steps)

  pub removal_refused : (component : List ℕ) → IsRemoval region component (Err fault) between now
      → LeavesOr now answer ((effect (on_region name (remove component))).outcome image source.content)
      × ((found : Range) → region_of image name ≡ Ok found → IsErrOf answer refusals.Device → LeavesWhole (bytes_in found image) component (bytes_in found now))
  removal_refused component removes =
      let by = removal_by region component fault between now removes in grind (arith, common_steps)
