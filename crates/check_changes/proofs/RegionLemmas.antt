-- The changes of regions, in the order of their findings.
use Rattle.std.proofs.Common.{◌≡◌, ◌∙◌, ℕ, ◌+◌, ◌-◌, ◌*◌, ◌/◌, ◌<◌, ◌≤◌, List, [], ◌++◌, length, get_or, drop, refl, sym, ap, add-one, arith, length-append}
use Rattle.std.proofs.Math.Seq.{drop-cons}
use Rattle.std.proofs.lemmas.List.{append-nil, drop_all}
use Rattle.std.proofs.lemmas.List.Sums.{sum_by-append}
use Rattle.check_findings.specs.declared.areas.NumberedArea.{NumberedArea}
use Rattle.check_findings.specs.declared.image.finding.ImageFinding.{ImageFinding}
use Rattle.check_findings.specs.ImageFindings.{region_area, region_areas, sum_sizes}
use Rattle.check_changes.specs.declared.images.Images.{Images}
use Rattle.check_changes.specs.declared.regions.change.RegionChange.{RegionChange}
use Rattle.check_changes.specs.Images.{OnBoth, lengths}
use Rattle.check_changes.proofs.ImageLemmas.{HasReadBoth}
use Rattle.check_changes.specs.Regions.{region_changes_in, region_changes}
use Rattle.check_changes.proofs.ImageLemmas.{both-then, both-within, OnBoth-before}

module _ {F G : Type 0} (olds : List NumberedArea) (findings : List ImageFinding) where
  -- the changes of the first i findings are listed, with `left` bytes of the old image for comparisons
  pub record Changing (i left : ℕ) (changes : List RegionChange) (old new : Images F G) : Type 0 where
    pub sizes : ℕ
    pub count : ℕ
    pub all_sizes : sizes + sum_sizes (region_areas (drop i findings)) ≡ sum_sizes (region_areas findings)
    pub all : count + length (region_areas (drop i findings)) ≡ length (region_areas findings)
    pub within : left ≤ (lengths old).old
    pub read : HasReadBoth (((lengths old).old - left + sizes) / 24 + 2 * count) (sizes / 12 + 2 * count) 0 0 old new
    pub listed : OnBoth old (λ x y. changes ++ region_changes_in left x y olds (region_areas (drop i findings)) ≡ region_changes_in (length x) x y olds (region_areas findings))

  pub changing_start : (left : ℕ) (changes : List RegionChange) (images : Images F G) → left ≡ (lengths images).old → changes ≡ [] → Changing 0 left changes images images
  changing_start left changes images is none = grind arith

  -- another finding
  pub changing_more : {i left rest : ℕ} (d : ImageFinding) {changes next : List RegionChange} {old mid new : Images F G} → Changing i left changes old mid → i < length findings → rest ≤ left
      → HasReadBoth ((left - rest + sum_sizes (region_area (get_or findings i d))) / 24 + 2 * length (region_area (get_or findings i d))) (sum_sizes (region_area (get_or findings i d)) / 12 + 2 * length (region_area (get_or findings i d))) 0 0 mid new
      → OnBoth mid (λ x y. (later : List NumberedArea) → next ++ region_changes_in rest x y olds later ≡ changes ++ region_changes_in left x y olds (region_area (get_or findings i d) ++ later))
      → Changing (i + 1) rest next old new
  changing_more {i} {left} {rest} d {changes} {next} {old} had lt fewer read more =
      let here = region_area (get_or findings i d) in
      let later = region_areas (drop (i + 1) findings) in
      let split : region_areas (drop i findings) ≡ here ++ later = rw (add-one, drop-cons findings i d lt) refl in
      record {
        sizes = had.sizes + sum_sizes here;
        count = had.count + length here;
        all_sizes = omega (arith, had.all_sizes, ap sum_sizes split, sum_by-append (λ (a : NumberedArea). a.area.size) here later);
        all = omega (arith, had.all, ap length split, length-append here later);
        within = omega (arith, had.within, fewer);
        read = both-within _ _ (omega (arith, had.within)) (omega arith) (both-then had.read read);
        listed = λ h k.
            OnBoth-before (λ x y. (later : List NumberedArea) → next ++ region_changes_in rest x y olds later ≡ changes ++ region_changes_in left x y olds (here ++ later)) had.read more h k later
            ∙ ap (λ (l : List NumberedArea). changes ++ region_changes_in left old.old_image.device.content old.new_image.device.content olds l) (sym split)
            ∙ had.listed h k;
      }

  -- the reads after some findings, or up to a fault in the next one
  abbrev pub HasReadAll : ℕ → ℕ → Images F G → Images F G → Type 0
  HasReadAll a b old new =
      HasReadBoth (((lengths old).old + 8 * (lengths old).new) / 24 + 2 * length (region_areas findings)) (8 * (lengths old).new / 12 + 2 * length (region_areas findings)) a b old new

  pub reads_all : {i left : ℕ} {changes : List RegionChange} {old new : Images F G} → sum_sizes (region_areas findings) ≤ 8 * (lengths old).new → Changing i left changes old new → HasReadAll 0 0 old new
  reads_all total had = both-within _ _ (omega (arith, total, had.all_sizes, had.all)) (omega (arith, total, had.all_sizes, had.all)) had.read

  pub reads_stopped : {i left a b : ℕ} (rest : ℕ) (d : ImageFinding) {changes : List RegionChange} {old mid new : Images F G} → sum_sizes (region_areas findings) ≤ 8 * (lengths old).new → Changing i left changes old mid → i < length findings → rest ≤ left
      → HasReadBoth ((left - rest + sum_sizes (region_area (get_or findings i d))) / 24 + 2 * length (region_area (get_or findings i d))) (sum_sizes (region_area (get_or findings i d)) / 12 + 2 * length (region_area (get_or findings i d))) a b mid new → HasReadAll a b old new
  reads_stopped {i} {left} rest d total had lt fewer read =
      let here = region_area (get_or findings i d) in
      let later = region_areas (drop (i + 1) findings) in
      let split : region_areas (drop i findings) ≡ here ++ later = rw (add-one, drop-cons findings i d lt) refl in
      let sizes : had.sizes + sum_sizes here ≤ sum_sizes (region_areas findings) = omega (arith, had.all_sizes, ap sum_sizes split, sum_by-append (λ (a : NumberedArea). a.area.size) here later) in
      let count : had.count + length here ≤ length (region_areas findings) = omega (arith, had.all, ap length split, length-append here later) in
      both-within _ _ (omega (arith, had.within, fewer, total, sizes, count)) (omega (arith, total, sizes, count)) (both-then had.read read)

  -- all findings
  pub changing_all : {i left : ℕ} {changes : List RegionChange} {old new : Images F G} → Changing i left changes old new → length findings ≤ i
      → (all : List NumberedArea) → olds ≡ all → OnBoth old (λ x y. changes ≡ region_changes x all y findings)
  unfolding region_changes
  changing_all {i} {left} {changes} {old} had end all are = λ h k.
      let x = old.old_image.device.content in
      let y = old.new_image.device.content in
      sym (append-nil changes)
      ∙ ap (λ (l : List ImageFinding). changes ++ region_changes_in left x y olds (region_areas l)) (sym (drop_all i findings end))
      ∙ had.listed h k
      ∙ ap (λ (l : List NumberedArea). region_changes_in (length x) x y l (region_areas findings)) are
