-- The outcome of a command on a region depends only on the region's bytes.
use Rattle.std.proofs.Common.{arith}
use Rattle.std.proofs.lemmas.Grind.{common_steps}
use Rattle.std.proofs.Common.{◌≡◌, ℕ, List, Result, Ok, Err, refl}
use Rattle.flash_device.specs.Device.{overwritten}
use Rattle.flash_device.specs.Regions.{Range, bytes_in}
use Rattle.flash_map.specs.Regions.{region_of}
use Rattle.cbfs_requests.specs.declared.refusal.Refusal.{Refusal}
use Rattle.cbfs_commands.specs.Effects.{RegionEdit, changes, effect, region_effect}
use Rattle.cbfs_requests.specs.Requests.{Task, fault_or, on_region}
use Rattle.cbfs_commands.specs.Outcomes.{Outcome}
use Rattle.cbfs_commands.proofs.RegionPlaces.{alike_over, region_lies}

-- two images with equal bytes in a region
module _ (name : List ℕ) (region : Range) (image other : List ℕ) (here : region_of image name ≡ Ok region) (there : region_of other name ≡ Ok region) (same : bytes_in region other ≡ bytes_in region image) where
  -- equal outputs, and equal bytes of the region
  abbrev pub Alike : Outcome → Outcome → Type 0
  Alike a b = (b.printout ≡ a.printout) × (bytes_in region b.image ≡ bytes_in region a.image)

  made : (source : List ℕ) (edit : RegionEdit) → let d = region_effect name edit in Alike (d.outcome image source) (d.outcome other source)
  made source edit = rw (here, there, same) (go (edit.make region (bytes_in region image) source))
    where
      over : List ℕ → Result (List ℕ) Refusal → Outcome
      over whole r = changes whole (fault_or Err r (λ bytes. Ok (overwritten whole region.start bytes)))

      go : (r : Result (List ℕ) Refusal) → Alike (over image r) (over other r)
      go (Err refusal) = (refl, same)
      go (Ok bytes) = (refl, alike_over region image other bytes (region_lies image name region here) (region_lies other name region there) same)

  pub each : (task : Task) (source : List ℕ) → let d = effect (on_region name task) in Alike (d.outcome image source) (d.outcome other source)
  each task source = grind (arith, common_steps, made)
