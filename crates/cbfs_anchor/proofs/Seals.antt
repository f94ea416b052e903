-- The digests of an image, step by step, and the effect of a seal.
use Rattle.std.proofs.Common.{◌≡◌, ◌⊎◌, inl, inr, ℕ, ◌+◌, ◌≤◌, true, List, ◌++◌, length, take, drop, Option, Some, None, Result, Ok, Err, refl, sym, ap, subst, ◌∙◌}
use Rattle.std.specs.Prelude.{IsErrOf}
use Rattle.std.specs.Option.{option_map_or}
use Rattle.std.proofs.lemmas.Slice.Eq.{bytes_eq-Decides}
use Rattle.std.proofs.lemmas.List.{take-append-drop}
use Rattle.flash_device.specs.Regions.{bytes_in}
use Rattle.flash_device.proofs.RegionLemmas.{image_is}
use Rattle.flash_map.specs.declared.search.FoundMap.{FoundMap}
use Rattle.cbfs_anchor.specs.declared.anchor.Anchor.{Anchor}
use Rattle.cbfs_anchor.specs.declared.demand.Demand.{Demand}
use Rattle.cbfs_anchor.specs.declared.place.AnchorPlace.{AnchorPlace}
use Rattle.cbfs_anchor.specs.declared.report.Report.{Report}
use Rattle.cbfs_anchor.specs.declared.fault.SealFault.{SealFault}
use Rattle.cbfs_anchor.specs.declared.fault.SealFault.TheVariants as faults
use Rattle.cbfs_anchor.specs.Algorithms.{digest_len}
use Rattle.cbfs_anchor.specs.Faults.{and_then}
use Rattle.cbfs_anchor.specs.Layout.{anchor_in, digests_range}
use Rattle.cbfs_anchor.specs.Places.{place_in, place_with}
use Rattle.cbfs_anchor.specs.Metadata.{metadata_in}
use Rattle.cbfs_anchor.specs.Seals.{IsReport, IsReported, Survey, digests, report_digests, sealed, survey_at, survey_by, survey_from, survey_in, survey_with, writing_fault}

-- ---- after the anchor is found

module _ (demand : Demand) (image : List ℕ) (place : AnchorPlace) (a : Anchor) where
  abbrev its_fault : Option SealFault
  its_fault = writing_fault demand place a (bytes_in place.anchor image)

  abbrev its_metadata : Result (List ℕ) SealFault
  its_metadata = metadata_in demand a.algorithm (bytes_in place.coreboot image)

  abbrev by_metadata : Result (List ℕ) SealFault → Result Survey SealFault
  by_metadata found = and_then found (λ message. Ok (survey_by a message (bytes_in place.map image)))

  pub survey_refused : (fault : SealFault) → Some fault ≡ its_fault → survey_at demand image place a ≡ Err fault
  survey_refused fault is = ap (λ o. option_map_or (λ f. Err f) o (by_metadata its_metadata)) (sym is)

  pub survey_by_metadata : (found : Result (List ℕ) SealFault) → None ≡ its_fault → its_metadata ≡ found → survey_at demand image place a ≡ by_metadata found
  survey_by_metadata found none is = ap (λ o. option_map_or (λ f. Err f) o (by_metadata its_metadata)) (sym none) ∙ ap by_metadata is

-- ---- the whole survey

abbrev KnowsOr : {T : Type 0} → Result T SealFault → Result T SealFault → Type 0
KnowsOr found is = IsErrOf found faults.Device ⊎ (found ≡ is)

-- after the range with the anchor is found
pub no_anchor : (demand : Demand) (image : List ℕ) (place : AnchorPlace) (fault : SealFault) → (let a : Result Anchor SealFault = Err fault in KnowsOr a (anchor_in place.anchor.start (bytes_in place.anchor image)))
    → (fault ≡ faults.Device) ⊎ (survey_from demand image place ≡ Err fault)
no_anchor demand image place fault (inl device) = inl cc
no_anchor demand image place fault (inr is) = inr (ap (λ (r : Result Anchor SealFault). and_then r (survey_at demand image place)) (sym is))

pub inspected : (demand : Demand) (image : List ℕ) (place : AnchorPlace) (a : Anchor) (result : Result Report SealFault) → (let b : Result Anchor SealFault = Ok a in KnowsOr b (anchor_in place.anchor.start (bytes_in place.anchor image)))
    → IsReported (survey_at demand image place a) result image → IsReported (survey_from demand image place) result image
inspected demand image place a result (inl device) told = absurd cc
inspected demand image place a result (inr is) told =
    subst (λ (survey : Result Survey SealFault). IsReported survey result image) (ap (λ (r : Result Anchor SealFault). and_then r (survey_at demand image place)) is) told

-- by a place, or the error of its search
module _ (demand : Demand) (image : List ℕ) (there : Result AnchorPlace SealFault) where
  abbrev by_place : Result Survey SealFault
  by_place = and_then there (survey_from demand image)

  unplaced : (fault : SealFault) → (let a : Result AnchorPlace SealFault = Err fault in KnowsOr a there) → (fault ≡ faults.Device) ⊎ (by_place ≡ Err fault)
  unplaced fault (inl device) = inl cc
  unplaced fault (inr is) = inr (ap (λ (r : Result AnchorPlace SealFault). and_then r (survey_from demand image)) (sym is))

  placed : (place : AnchorPlace) (result : Result Report SealFault) → (let b : Result AnchorPlace SealFault = Ok place in KnowsOr b there) → IsReported (survey_from demand image place) result image → IsReported by_place result image
  placed place result (inl device) told = absurd cc
  placed place result (inr is) told =
      subst (λ (survey : Result Survey SealFault). IsReported survey result image) (ap (λ (r : Result AnchorPlace SealFault). and_then r (survey_from demand image)) is) told

pub no_place : (demand : Demand) (image : List ℕ) (fault : SealFault) → (let a : Result AnchorPlace SealFault = Err fault in KnowsOr a (place_in image)) → (fault ≡ faults.Device) ⊎ (survey_in demand image ≡ Err fault)
unfolding survey_in
no_place demand image fault there = unplaced demand image (place_in image) fault there

pub place_inspected : (demand : Demand) (image : List ℕ) (place : AnchorPlace) (result : Result Report SealFault) → (let b : Result AnchorPlace SealFault = Ok place in KnowsOr b (place_in image))
    → IsReported (survey_from demand image place) result image → IsReported (survey_in demand image) result image
unfolding survey_in
place_inspected demand image place result there told = placed demand image (place_in image) place result there told

-- the same by a known map
pub no_place_with : (demand : Demand) (image : List ℕ) (map : FoundMap) (fault : SealFault) → (let a : Result AnchorPlace SealFault = Err fault in KnowsOr a (place_with image map)) → (fault ≡ faults.Device) ⊎ (survey_with demand image map ≡ Err fault)
unfolding survey_with
no_place_with demand image map fault there = unplaced demand image (place_with image map) fault there

pub place_inspected_with : (demand : Demand) (image : List ℕ) (map : FoundMap) (place : AnchorPlace) (result : Result Report SealFault) → (let b : Result AnchorPlace SealFault = Ok place in KnowsOr b (place_with image map))
    → IsReported (survey_from demand image place) result image → IsReported (survey_with demand image map) result image
unfolding survey_with
place_inspected_with demand image map place result there told = placed demand image (place_with image map) place result there told

-- ---- the seal

pub report_digests_are : (s : Survey) (image : List ℕ) (report : Report) → IsReport s image report → report_digests report ≡ digests s
report_digests_are s image report is =
    let n = λ (a : Anchor). digest_len a.algorithm in
    ap (λ (a : Anchor). take (n a) report.metadata ++ take (n a) report.map) is.anchor
    ∙ ap (λ l. l ++ take (n s.anchor) report.map) is.metadata ∙ ap (λ l. s.metadata ++ l) is.map

-- both digests are right already
pub sealed_already : (s : Survey) (image : List ℕ) (report : Report) → IsReport s image report → (digests_range s.anchor).start + (digests_range s.anchor).size ≤ length image
    → report.metadata_valid ≡ true → report.map_valid ≡ true → image ≡ sealed s image
sealed_already s image report is inside first last =
    let r = digests_range s.anchor in
    let x = bytes_in r image in
    let n = digest_len s.anchor.algorithm in
    let metadata : take n x ≡ s.metadata = (bytes_eq-Decides (take n x) s.metadata).0 (sym is.metadata_valid ∙ first) in
    let map : drop n x ≡ s.map = (bytes_eq-Decides (drop n x) s.map).0 (sym is.map_valid ∙ last) in
    let whole : x ≡ digests s = sym (take-append-drop n x) ∙ ap (λ l. l ++ drop n x) metadata ∙ ap (λ l. s.metadata ++ l) map in
    image_is r image image (digests s) inside refl (record { before = refl; after = refl }) whole
