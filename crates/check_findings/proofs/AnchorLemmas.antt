-- The findings of an anchor, and the digests that it should have.
use Rattle.std.proofs.Common.{◌≡◌, ◌∙◌, ℕ, Bool, true, false, List, [], Some, None, Result, Ok, Err, refl, sym}
use Rattle.std.specs.Prelude.{◌≢◌, ◌↔◌, ◌||◌, not}
use Rattle.std.specs.List.{list_any}
use Rattle.std.specs.Option.{option_map_or}
use Rattle.std.specs.Result.{result_ok}
use Rattle.std.specs.Str.{bytes_eq}
use Rattle.std.proofs.lemmas.Bool.{false≢true, or_parts}
use Rattle.std.proofs.lemmas.Slice.Eq.{bytes_eq-Decides}
use Rattle.cbfs_anchor.specs.declared.algorithm.Algorithm.{Algorithm}
use Rattle.cbfs_anchor.specs.declared.anchor.Anchor.{Anchor}
use Rattle.cbfs_anchor.specs.declared.demand.Demand.TheVariants.{Nothing}
use Rattle.std.proofs.Common.{◌⊎◌, inl, inr}
use Rattle.std.specs.Prelude.{IfOk, IsErrOf}
use Rattle.flash_map.specs.Fmap.{found_in}
use Rattle.flash_map.specs.declared.search.FoundMap.{FoundMap}
use Rattle.cbfs_anchor.specs.declared.fault.SealFault.TheVariants as faults
use Rattle.cbfs_anchor.specs.declared.fault.SealFault.{SealFault}
use Rattle.cbfs_anchor.specs.declared.place.AnchorPlace.{AnchorPlace}
use Rattle.cbfs_anchor.specs.Faults.{and_then}
use Rattle.cbfs_anchor.specs.Places.{place_in, place_with}
use Rattle.cbfs_anchor.specs.Seals.{Survey, stored_map, stored_metadata, survey_at, survey_in}
use Rattle.check_findings.specs.Anchors.{IsAnchorCheck, anchor_at, anchor_findings, digest_findings, findings_at, image_anchor}
use Rattle.check_findings.specs.declared.anchor.checked_anchor.CheckedAnchor.{CheckedAnchor}
use Rattle.check_findings.specs.declared.fault.CheckFault.{CheckFault}
use Rattle.check_findings.specs.Laws.{HasDigests, is_other_map, is_other_metadata}
use Rattle.check_findings.specs.Verdicts.{is_bad_anchor}
use Rattle.check_findings.specs.declared.anchor.finding.AnchorFinding.{AnchorFinding}
use Rattle.check_findings.specs.declared.anchor.finding.AnchorSpot.{AnchorSpot}

-- ---- the check

pub without_map : (image : List ℕ) (checked : CheckedAnchor) → found_in image ≡ None → checked.anchor ≡ None → checked.findings.items ≡ [] → IsAnchorCheck image checked
unfolding image_anchor anchor_findings place_in
without_map image checked none anchor findings = record { anchor = rw none anchor; findings = rw none findings }

pub without_place : (image : List ℕ) (map : FoundMap) (fault : SealFault) (checked : CheckedAnchor) → found_in image ≡ Some map → (fault ≡ faults.Device → ⊥)
    → (let a : Result AnchorPlace SealFault = Err fault in IsErrOf a faults.Device ⊎ (a ≡ place_with image map)) → checked.anchor ≡ None → checked.findings.items ≡ [] → IsAnchorCheck image checked
unfolding image_anchor anchor_findings place_in
without_place image map fault checked there other (inl device) anchor findings = absurd (other cc)
without_place image map fault checked there other (inr is) anchor findings = record { anchor = rw (there, sym is) anchor; findings = rw (there, sym is) findings }

pub with_place : (image : List ℕ) (map : FoundMap) (place : AnchorPlace) (result : Result CheckedAnchor CheckFault) → found_in image ≡ Some map
    → (let a : Result AnchorPlace SealFault = Ok place in IsErrOf a faults.Device ⊎ (a ≡ place_with image map))
    → IfOk result (λ checked. checked.anchor ≡ result_ok (anchor_at image place)) → IfOk result (λ checked. checked.findings.items ≡ findings_at image place (anchor_at image place))
    → IfOk result (IsAnchorCheck image)
unfolding image_anchor anchor_findings place_in
with_place image map place (Err fault) there is anchor findings = tt
with_place image map place (Ok checked) there (inl device) anchor findings = absurd cc
with_place image map place (Ok checked) there (inr is) anchor findings = record { anchor = rw (there, sym is) anchor; findings = rw (there, sym is) findings }

-- ---- anchors without bad findings

same : (x y : List ℕ) → not (bytes_eq x y) ≡ false → x ≡ y
same x y is = (bytes_eq-Decides x y).0 (go (bytes_eq x y) is)
  where
    go : (b : Bool) → not b ≡ false → b ≡ true
    go true e = refl
    go false e = absurd cc

module _ (image : List ℕ) where
  -- an anchor whose digests are right
  IsSealed : Result Survey SealFault → Type 0
  IsSealed survey = (s : Survey) × (survey ≡ Ok s) × HasDigests image s

  sealed_by : (spot : AnchorSpot) (algorithm : Algorithm) (survey : Result Survey SealFault)
      → list_any is_bad_anchor (digest_findings image spot algorithm survey) ≡ false → IsSealed survey
  unfolding IsSealed
  sealed_by spot algorithm (Err fault) fit = absurd (false≢true (sym fit))
  sealed_by spot algorithm (Ok s) fit =
      let parts = or_parts (not (bytes_eq (stored_metadata s.anchor image) s.metadata)) _ fit in
      (s, refl, record { metadata = same _ _ parts.0; map = same _ _ (or_parts (not (bytes_eq (stored_map s.anchor image) s.map)) false parts.1).0 })

  sealed_at : (place : AnchorPlace) (found : Result Anchor SealFault) (a : Anchor) → result_ok found ≡ Some a
      → list_any is_bad_anchor (findings_at image place found) ≡ false → IsSealed (and_then found (survey_at Nothing image place))
  sealed_at place (Err fault) a there fit = absurd cc
  sealed_at place (Ok b) a there fit = sealed_by _ b.algorithm (survey_at Nothing image place b) fit

  sealed_in : (place : Result AnchorPlace SealFault) (a : Anchor) → result_ok (and_then place (anchor_at image)) ≡ Some a
      → list_any is_bad_anchor (option_map_or (λ p. findings_at image p (anchor_at image p)) (result_ok place) []) ≡ false
      → IsSealed (and_then place (λ p. and_then (anchor_at image p) (survey_at Nothing image p)))
  sealed_in (Err fault) a there fit = absurd cc
  sealed_in (Ok place) a there fit = sealed_at place (anchor_at image place) a there fit

  pub sealed : (a : Anchor) → image_anchor image ≡ Some a → list_any is_bad_anchor (anchor_findings image) ≡ false
      → (s : Survey) × (survey_in Nothing image ≡ Ok s) × HasDigests image s
  unfolding IsSealed image_anchor anchor_findings survey_in
  sealed a there fit = sealed_in (place_in image) a there fit

  -- ---- reported digests

  decided : (x y : List ℕ) (rest : Bool) → rest ≡ false → ((not (bytes_eq x y) || rest) ≡ true) ↔ (x ≢ y)
  decided x y rest none = (λ told is. go (bytes_eq x y) told ((bytes_eq-Decides x y).1 is), λ differ. back (bytes_eq x y) (λ e. differ ((bytes_eq-Decides x y).0 e)))
    where
      go : (b : Bool) → (not b || rest) ≡ true → b ≡ true → ⊥
      go true told e = false≢true (sym none ∙ told)
      go false told e = false≢true e

      back : (b : Bool) → (b ≡ true → ⊥) → (not b || rest) ≡ true
      back true differ = absurd (differ refl)
      back false differ = refl

  -- the findings of a survey
  Reports : Survey → List AnchorFinding → Type 0
  Reports s found = ((list_any is_other_metadata found ≡ true) ↔ (stored_metadata s.anchor image ≢ s.metadata))
      × ((list_any is_other_map found ≡ true) ↔ (stored_map s.anchor image ≢ s.map))

  reports_in : (place : Result AnchorPlace SealFault) (s : Survey) → and_then place (λ p. and_then (anchor_at image p) (survey_at Nothing image p)) ≡ Ok s
      → Reports s (option_map_or (λ p. findings_at image p (anchor_at image p)) (result_ok place) [])
  unfolding Reports
  reports_in (Err fault) s is = absurd cc
  reports_in (Ok place) s is = go (anchor_at image place) is
    where
      go : (found : Result Anchor SealFault) → and_then found (survey_at Nothing image place) ≡ Ok s
          → ((list_any is_other_metadata (findings_at image place found) ≡ true) ↔ (stored_metadata s.anchor image ≢ s.metadata))
          × ((list_any is_other_map (findings_at image place found) ≡ true) ↔ (stored_map s.anchor image ≢ s.map))
      go (Err fault) e = absurd cc
      go (Ok a) e = rw e (decided _ _ false refl, decided _ _ false refl)

  pub reported : (s : Survey) → survey_in Nothing image ≡ Ok s
      → ((list_any is_other_metadata (anchor_findings image) ≡ true) ↔ (stored_metadata s.anchor image ≢ s.metadata))
      × ((list_any is_other_map (anchor_findings image) ≡ true) ↔ (stored_map s.anchor image ≢ s.map))
  unfolding Reports anchor_findings survey_in
  reported s is = reports_in (place_in image) s is
