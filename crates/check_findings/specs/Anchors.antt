-- Findings of an anchor of CBFS verification. This project defines their choice and order.
use Rattle.std.specs.Prelude.{◌≡◌, ℕ, ◌-◌, List, [], ◌∷◌, Option, Some, None, Result, Ok, Err, option_to_list, if◌then◌else◌}
use Rattle.std.specs.Option.{option_map_or}
use Rattle.std.specs.Result.{result_ok}
use Rattle.std.specs.Str.{bytes_eq}
use Rattle.flash_device.specs.Regions.{bytes_in}
use Rattle.cbfs_anchor.specs.declared.algorithm.Algorithm.{Algorithm}
use Rattle.cbfs_anchor.specs.declared.anchor.Anchor.{Anchor}
use Rattle.cbfs_anchor.specs.declared.demand.Demand.TheVariants.{Nothing}
use Rattle.cbfs_anchor.specs.declared.fault.SealFault.{SealFault}
use Rattle.cbfs_anchor.specs.declared.fault.SealFault.TheVariants as faults
use Rattle.cbfs_anchor.specs.declared.place.AnchorPlace.{AnchorPlace}
use Rattle.cbfs_anchor.specs.Faults.{and_then}
use Rattle.cbfs_anchor.specs.Layout.{anchor_in}
use Rattle.cbfs_anchor.specs.Places.{place_in}
use Rattle.cbfs_anchor.specs.Seals.{Survey, stored_map, stored_metadata, survey_at}
use Rattle.check_findings.specs.declared.anchor.checked_anchor.CheckedAnchor.{CheckedAnchor}
use Rattle.check_findings.specs.declared.anchor.finding.AnchorFinding.{AnchorFinding}
use Rattle.check_findings.specs.declared.anchor.finding.AnchorFinding.TheVariants.{CutOff, FlashMap, Metadata, NotChecked, UnknownAlgorithm}
use Rattle.check_findings.specs.declared.anchor.finding.AnchorSpot.{AnchorSpot}
use Rattle.check_findings.specs.declared.anchor.finding.Bootblock.{Bootblock}
use Rattle.check_findings.specs.declared.anchor.finding.Bootblock.TheVariants.{Area, Component}

-- the anchor in the range of a place
abbrev pub anchor_at : List ℕ → AnchorPlace → Result Anchor SealFault
anchor_at image place = anchor_in place.anchor.start (bytes_in place.anchor image)

-- the image's anchor, if any
unfoldable pub image_anchor : List ℕ → Option Anchor
image_anchor image = result_ok (and_then (place_in image) (anchor_at image))

abbrev pub bootblock_of : AnchorPlace → Bootblock
bootblock_of place = if place.in_component then Component else Area

-- the anchor's offset in COREBOOT or BOOTBLOCK
abbrev pub spot_of : AnchorPlace → Anchor → AnchorSpot
spot_of place a = let start = if place.in_component then place.coreboot.start
    else place.anchor.start in record { bootblock = bootblock_of place; at = a.at - start }

-- by the digests that the anchor should have; without them, if COREBOOT is damaged
abbrev pub digest_findings : List ℕ → AnchorSpot → Algorithm → Result Survey SealFault
    → List AnchorFinding
digest_findings image spot algorithm (Ok s) =
    Metadata spot algorithm (bytes_eq (stored_metadata s.anchor image) s.metadata)
    ∷ FlashMap spot algorithm (bytes_eq (stored_map s.anchor image) s.map) ∷ []
digest_findings image spot algorithm (Err fault) = NotChecked spot ∷ []

-- of an anchor that can't be used
abbrev pub fault_finding : Bootblock → SealFault → Option AnchorFinding
fault_finding bootblock faults.UnknownAlgorithm = Some (UnknownAlgorithm bootblock)
fault_finding bootblock faults.CutOff = Some (CutOff bootblock)
fault_finding bootblock _ = None

abbrev pub findings_at : List ℕ → AnchorPlace → Result Anchor SealFault → List AnchorFinding
findings_at image place (Ok a) =
    digest_findings image (spot_of place a) a.algorithm (survey_at Nothing image place a)
findings_at image place (Err fault) = option_to_list (fault_finding (bootblock_of place) fault)

-- of the image's anchor, if any
unfoldable pub anchor_findings : List ℕ → List AnchorFinding
anchor_findings image = option_map_or (λ place. findings_at image place (anchor_at image place))
    (result_ok (place_in image)) []

-- the check of an image's anchor
pub record IsAnchorCheck (image : List ℕ) (checked : CheckedAnchor) : Type 0 where
  pub anchor : checked.anchor ≡ image_anchor image
  pub findings : checked.findings.items ≡ anchor_findings image
