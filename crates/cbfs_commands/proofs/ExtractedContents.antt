-- Added content is extracted.
use Rattle.std.proofs.Common.{arith}
use Rattle.std.proofs.lemmas.Grind.{common_steps}
use Rattle.std.proofs.Common.{◌≡◌, ℕ, List, length, Option, Result, ◌∙◌, ap, sym}
use Rattle.flash_format.specs.Components.{compression_of}
use Rattle.flash_format.proofs.MadeLaws.{made_attributes}
use Rattle.flash_format.specs.declared.digest.Digest.{Digest}
use Rattle.flash_device.specs.Device.{overwritten}
use Rattle.flash_device.specs.Regions.{Range, bytes_in}
use Rattle.flash_map.specs.declared.search.StoreFault.{StoreFault}
use Rattle.flash_device.proofs.DeviceLemmas.{length-bytes_in}
use Rattle.cbfs_edit.specs.Additions.{NewComponent, added}
use Rattle.cbfs_edit.specs.Laws.{IsAdded}
use Rattle.cbfs_edit.specs.declared.place.Place.{Place}
use Rattle.cbfs_edit.specs.declared.place.Spot.{Spot}
use Rattle.cbfs_edit.proofs.AdditionLemmas.{added_length}
use Rattle.cbfs_edit.proofs.SearchLaws.{additions_found}
use Rattle.cbfs_requests.specs.Requests.{fault_or, store_refusal}
use Rattle.cbfs_commands.specs.Outcomes.{extract_region}
use Rattle.cbfs_commands.specs.Outcomes.{refuses, shows}
use Rattle.cbfs_commands.specs.Laws.{AdditionsAreExtracted}
use Rattle.cbfs_commands.proofs.RegionPlaces.{region_lies, whole_over}

-- no compression attribute
plain : (digest : Option Digest) → compression_of (made_attributes digest) ≡ 0
plain digest = grind (arith, common_steps)

pub additions_extracted : (x : List ℕ) (new : NewComponent) (spot : Spot) (place : Place) → IsAdded x new spot place → AdditionsAreExtracted x new place
additions_extracted x new spot place is = record {
  region = of_region;
  image = λ image name region whole asked still.
      let now : List ℕ = overwritten image region.start (added x new place) in
      let lies = region_lies image name region asked in
      let long : length (added x new place) ≡ region.size = added_length x new spot place is ∙ ap length (sym whole) ∙ length-bytes_in region image lies in
      ap (λ (r : Result Range StoreFault). fault_or (λ fault. refuses (store_refusal fault)) r (λ found. extract_region (bytes_in found now) new.name)) still
      ∙ ap (λ (l : List ℕ). extract_region l new.name) (whole_over region image (added x new place) lies long) ∙ of_region;
}
  where
    of_region : extract_region (added x new place) new.name ≡ shows new.content
    of_region = grind (arith, common_steps, additions_found, plain)
