-- The checked areas, finding by finding.
use Rattle.std.proofs.Common.{◌≡◌, ◌∙◌, ℕ, ◌+◌, ◌*◌, ◌/◌, ◌<◌, ◌≤◌, All, List, [], ◌∷◌, ◌++◌, suc, zero, length, get_or, drop, refl, sym, ap, add-one, arith, length-append, append_assoc}
use Rattle.std.proofs.Math.Seq.{drop-cons}
use Rattle.std.proofs.lemmas.Grind.{flat_map-append}
use Rattle.std.proofs.lemmas.List.Elements.{All-cons, All-head, All-nil, All-tail}
use Rattle.std.proofs.lemmas.List.Sums.{sum_by-append}
use Rattle.flash_device.proofs.DeviceLemmas.{honest_still}
use Rattle.flash_device.proofs.WindowLemmas.{HasRead-none, HasRead-then, HasRead-within}
use Rattle.flash_device.specs.Pages.{HasRead, OnHonest, Pages}
use Rattle.check_findings.specs.declared.areas.NumberedArea.{NumberedArea}
use Rattle.check_findings.specs.declared.image.finding.ImageFinding.{ImageFinding}
use Rattle.check_findings.specs.Areas.{area_end}
use Rattle.check_findings.specs.ImageFindings.{region_area, region_areas, sum_sizes}
use Rattle.check_digests.specs.Digests.{SeenDigests, digests_in, image_digests}

-- the areas of a finding, before those of the later ones
split : (findings : List ImageFinding) (i : ℕ) (d : ImageFinding) → i < length findings → region_areas (drop i findings) ≡ region_area (get_or findings i d) ++ region_areas (drop (i + 1) findings)
split findings i d lt = rw (add-one, drop-cons findings i d lt) refl

all_left : {X : Type 0} (P : X → Type 0) (xs ys : List X) → All P (xs ++ ys) → All P xs
all_left P [] ys all = All-nil P
all_left P (x ∷ xs) ys all = All-cons P x xs (All-head P x (xs ++ ys) all) (all_left P xs ys (All-tail P x (xs ++ ys) all))

all_right : {X : Type 0} (P : X → Type 0) (xs ys : List X) → All P (xs ++ ys) → All P ys
all_right P [] ys all = all
all_right P (x ∷ xs) ys all = all_right P xs ys (All-tail P x (xs ++ ys) all)

-- what holds for all areas holds for those of a finding
areas_of : (P : NumberedArea → Type 0) (findings : List ImageFinding) (i : ℕ) (d : ImageFinding) → i < length findings → All P (region_areas findings) → All P (region_area (get_or findings i d))
areas_of P [] i d lt all = absurd (omega (arith, lt))
areas_of P (f ∷ findings) zero d lt all = all_left P (region_area f) (region_areas findings) all
areas_of P (f ∷ findings) (suc i) d lt all = areas_of P findings i d (omega (arith, lt)) (all_right P (region_area f) (region_areas findings) all)

-- the areas of a finding lie inside an image of n bytes, if all areas lie inside an image of m bytes
pub areas_inside : (n m : ℕ) (findings : List ImageFinding) (i : ℕ) (d : ImageFinding) → n ≡ m → i < length findings → All (λ a. area_end a.area ≤ m) (region_areas findings) → All (λ a. area_end a.area ≤ n) (region_area (get_or findings i d))
areas_inside n m findings i d same lt all = rw same (areas_of (λ a. area_end a.area ≤ m) findings i d lt all)

module _ {F : Type 0} (findings : List ImageFinding) where
  -- the digests of the first i findings are listed
  pub record Digesting (i : ℕ) (all : List SeenDigests) (old new : Pages F) : Type 0 where
    pub sizes : ℕ
    pub count : ℕ
    pub all_sizes : sizes + sum_sizes (region_areas (drop i findings)) ≡ sum_sizes (region_areas findings)
    pub all_areas : count + length (region_areas (drop i findings)) ≡ length (region_areas findings)
    pub read : HasRead (sizes / 20 + 2 * count) 0 old new
    pub listed : OnHonest old.device (λ image. all ++ image_digests image (drop i findings) ≡ image_digests image findings)

  pub digesting_start : (all : List SeenDigests) (old : Pages F) → all ≡ [] → Digesting 0 all old old
  digesting_start all old none = record {
    sizes = 0;
    count = 0;
    all_sizes = omega arith;
    all_areas = omega arith;
    read = HasRead-none old;
    listed = λ h. rw none refl;
  }

  -- another finding
  pub digesting_more : {i : ℕ} (d : ImageFinding) {all next : List SeenDigests} {old mid new : Pages F} → Digesting i all old mid → i < length findings
      → HasRead (sum_sizes (region_area (get_or findings i d)) / 20 + 2 * length (region_area (get_or findings i d))) 0 mid new
      → OnHonest mid.device (λ image. next ≡ all ++ digests_in image (region_area (get_or findings i d)))
      → Digesting (i + 1) next old new
  digesting_more {i} d {all} {next} {old} had lt read more =
      let here = region_area (get_or findings i d) in
      let later = region_areas (drop (i + 1) findings) in
      let parts = split findings i d lt in
      record {
        sizes = had.sizes + sum_sizes here;
        count = had.count + length here;
        all_sizes = omega (arith, had.all_sizes, ap sum_sizes parts, sum_by-append (λ (a : NumberedArea). a.area.size) here later);
        all_areas = omega (arith, had.all_areas, ap length parts, length-append here later);
        read = HasRead-within _ _ 0 _ _ (omega arith) (HasRead-then _ _ 0 _ _ _ had.read read);
        listed = λ h.
            let image = old.device.content in
            let device = had.read.device in
            let gained = rw (device.unchanged h) at (more (honest_still device.calls.same_honesty h)) in
            ap (λ (l : List SeenDigests). l ++ digests_in image later) gained
            ∙ append_assoc all (digests_in image here) (digests_in image later)
            ∙ ap (λ (l : List SeenDigests). all ++ l) (sym (ap (digests_in image) parts ∙ flat_map-append _ here later))
            ∙ had.listed h;
      }
