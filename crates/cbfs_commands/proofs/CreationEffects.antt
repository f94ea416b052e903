-- A creation can change all bytes of the image. An interruption has no further promise.
use Rattle.std.proofs.lemmas.Grind.{common_steps}
use Rattle.std.proofs.Common.{◌≡◌, ◌⊎◌, inl, inr, IsErrOf, IsTrue, Ok, Result, ℕ, List, length, take, replicate, refl, arith}
use Rattle.std.specs.Prelude.{fold}
use Rattle.flash_device.specs.Device.{Calls, Device, SameOutside, call_limit, fault_count, overwritten}
use Rattle.flash_device.specs.Laws.{with_edit}
use Rattle.flash_device.specs.Regions.{Range}
use Rattle.cbfs_edit.specs.Changes.{formatted}
use Rattle.flash_device.specs.Pages.{OnHonest}
use Rattle.cbfs_commands.specs.declared.create.plan.Plan.{Plan}
use Rattle.cbfs_requests.specs.declared.refusal.Refusal.{Refusal}
use Rattle.cbfs_requests.specs.declared.refusal.Refusal.TheVariants as refusals
use Rattle.cbfs_commands.specs.Creations.{created_image, plan_for}
use Rattle.cbfs_commands.specs.Effects.{HasEffect, OnAllHonest, effect}
use Rattle.cbfs_requests.specs.Requests.{by_device, by_source, create}
use Rattle.cbfs_commands.proofs.RefusedEdits.{LeavesOr}
use Rattle.cbfs_commands.specs.Outcomes.{CommandResult}

whole-image : (image now : List ℕ) → length now ≡ length image → SameOutside 0 (length image) image now
whole-image image now same = grind (arith, common_steps)

-- 0xff throughout, then the map, then the regions
pub all-written : (image filled mapped now read source : List ℕ) (n at len : ℕ) (regions : List Range) → n ≡ length image → filled ≡ overwritten image 0 (replicate n 0xff) → read ≡ source → mapped ≡ overwritten filled at (take len read)
    → now ≡ fold (λ image place. with_edit place formatted image) mapped regions → now ≡ fold (λ image place. with_edit place formatted image) (overwritten (replicate (length image) 0xff) at (take len source)) regions
all-written image filled mapped now read source n at len regions long is_filled same is_mapped is = grind (arith, common_steps)

module _ (names : List (List ℕ)) {old new source now : Device} where
  module _ {answer : CommandResult} (calls : Calls (call_limit old) (fault_count by_device answer) old new) (reads : Calls ((effect (create names)).source_calls source) (fault_count by_source answer) source now) where
    creation : (answer ≡ Ok tt) ⊎ IsErrOf answer refusals.Device ⊎ IsErrOf answer refusals.Source → OnAllHonest (effect (create names)) old source (λ image content. LeavesOr new.content answer ((effect (create names)).outcome image content)) → HasEffect (effect (create names)) old new source now answer
    creation may left = record { calls = calls; source_calls = reads; no_output = λ silent failed. grind (arith, common_steps); spares = λ h. whole-image _ _ calls.same_length; refused = λ h. grind (arith, common_steps); left = left; stopped = λ h serves. calls.same_length }

    pub creation_stopped : IsErrOf answer refusals.Device ⊎ IsErrOf answer refusals.Source → HasEffect (effect (create names)) old new source now answer
    creation_stopped failed = creation (inr failed) (λ h serves. grind (arith, common_steps))

  -- a successful creation makes the image of its plan
  pub creation_done : (plan : Plan) → Calls (call_limit old) 0 old new → Calls ((effect (create names)).source_calls source) 0 source now
      → OnHonest old (λ image. IsTrue source.honest → ((let r : Result Plan Refusal = Ok plan in IsErrOf r refusals.Source) ⊎ (Ok plan ≡ plan_for (length image) names source.content)) × (new.content ≡ created_image (length image) plan source.content))
      → HasEffect (effect (create names)) old new source now (Ok tt)
  creation_done plan calls reads made = creation calls reads (inl refl) (λ h serves. let m = made h (serves (omega arith)) in elim m.0 [ inl failed ↦ absurd {0} cc | inr is ↦ inl (rw (← is) (refl, m.1)) ])
