-- The changes of areas, in order.
use Rattle.std.proofs.Common.{◌≡◌, ◌∙◌, ℕ, ◌+◌, ◌<◌, ◌≤◌, List, [], ◌++◌, length, drop, get_or, map, refl, sym, ap, add-one, append_assoc}
use Rattle.std.specs.List.{flat_map}
use Rattle.check_changes.specs.declared.areas.change.AreaChange.{AreaChange}
use Rattle.check_changes.specs.declared.areas.pairs.AreaPair.{AreaPair}
use Rattle.check_changes.specs.declared.images.Images.{Images}
use Rattle.check_changes.specs.Areas.{area_change, area_changes_in, compared, content_differences, entry_differences, left_after, same_size_regions}
use Rattle.check_changes.specs.Images.{OnBoth, lengths, lengths_of}
use Rattle.check_changes.proofs.ImageLemmas.{HasReadBoth}
use Rattle.check_changes.proofs.ImageLemmas.{OnBoth-before}
use Rattle.std.proofs.Math.Seq.{drop-cons}
use Rattle.std.proofs.lemmas.List.{append-nil, drop_all, map-append}

-- another element
pub flat_map-more : {X Z : Type 0} (f : X → List Z) (xs : List X) (i : ℕ) (d : X) (before after all : List Z) → i < length xs → after ≡ before ++ f (get_or xs i d) → before ++ flat_map f (drop i xs) ≡ all
    → after ++ flat_map f (drop (i + 1) xs) ≡ all
flat_map-more f xs i d before after all lt pushed so_far =
    let here = f (get_or xs i d) in
    let rest = flat_map f (drop (i + 1) xs) in
    let left : flat_map f (drop i xs) ≡ here ++ rest = rw (add-one, drop-cons xs i d lt) refl in
    ap (λ l. l ++ rest) pushed ∙ append_assoc before here rest ∙ ap (λ l. before ++ l) (sym left) ∙ so_far

-- all elements
pub flat_map-all : {X Z : Type 0} (f : X → List Z) (xs : List X) (i : ℕ) (before all : List Z) → length xs ≤ i → before ++ flat_map f (drop i xs) ≡ all → before ≡ all
flat_map-all f xs i before all end is = sym (append-nil before) ∙ ap (λ l. before ++ flat_map f l) (sym (drop_all i xs end)) ∙ is

-- another pair
module _ {F G : Type 0} (pairs : List AreaPair) where
  pub changes_in-more : {i m n rest : ℕ} (left : ℕ) (d : AreaPair) (before : List AreaChange) {mid after : List AreaChange} {old now : Images F G} (all : List ℕ → List ℕ → List AreaChange) → i < length pairs
      → HasReadBoth m n 0 0 old now → OnBoth old (λ x y. before ++ area_changes_in x y pairs left (drop i pairs) ≡ all x y)
      → mid ≡ before ++ map (area_change (get_or pairs i d).new) (entry_differences (get_or pairs i d).old (get_or pairs i d).new) → rest ≡ left_after left (same_size_regions (lengths now) (get_or pairs i d))
      → OnBoth now (λ x y. after ≡ mid ++ map (area_change (get_or pairs i d).new) (content_differences x y pairs (get_or pairs i d) (compared left (same_size_regions (lengths_of x y) (get_or pairs i d)))))
      → OnBoth old (λ x y. after ++ area_changes_in x y pairs rest (drop (i + 1) pairs) ≡ all x y)
  changes_in-more {i} {m} {n} {rest} left d before {mid} {after} {old} {now} all lt read so_far entered less pushed = λ h k.
      let p = get_or pairs i d in
      let x = old.old_image.device.content in
      let y = old.new_image.device.content in
      let here = map (area_change p.new) (entry_differences p.old p.new) in
      let content = map (area_change p.new) (content_differences x y pairs p (compared left (same_size_regions (lengths_of x y) p))) in
      let later = area_changes_in x y pairs rest (drop (i + 1) pairs) in
      let told = OnBoth-before (λ x y. (rest ≡ left_after left (same_size_regions (lengths_of x y) p)) × (after ≡ mid ++ map (area_change p.new) (content_differences x y pairs p (compared left (same_size_regions (lengths_of x y) p))))) read (λ h k. (less, pushed h k)) h k in
      let split : area_changes_in x y pairs left (drop i pairs) ≡ (here ++ content) ++ later = rw (told.0, add-one, drop-cons pairs i d lt, map-append (area_change p.new) (entry_differences p.old p.new) (content_differences x y pairs p (compared left (same_size_regions (lengths_of x y) p)))) refl in
      rw (told.1, entered, append_assoc before here content, append_assoc before (here ++ content) later, ← split) (so_far h k)

-- two lists, one after the other
pub pushed-both : {X : Type 0} (first second all xs ys : List X) → first ≡ [] → second ≡ first ++ xs → all ≡ second ++ ys → all ≡ xs ++ ys
pushed-both first second all xs ys none pushed more = rw (more, pushed, none) refl
