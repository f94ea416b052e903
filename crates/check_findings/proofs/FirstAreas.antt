-- The first area of each name, in order.
use Rattle.std.proofs.Common.{arith, ◌≡◌, ℕ, ◌+◌, ◌<◌, Bool, true, false, List, [], ◌∷◌, ◌++◌, length, take, get_or, Option, Some, sym, ap, subst, ◌∙◌, add-one}
use Rattle.std.specs.List.{find}
use Rattle.std.specs.Prelude.{is_some}
use Rattle.std.specs.Ordering.{nat_cmp}
use Rattle.std.specs.Cmp.Lexicographic.{nat_list_eq_equiv, slice_cmp}
use Rattle.std.specs.BTreeMap.{UpdatesBy}
use Rattle.std.proofs.Math.Seq.{take-suc}
use Rattle.std.proofs.lemmas.List.Folds.{find-append}
use Rattle.std.proofs.lemmas.Map.Text.{btree_map_updates_str}
use Rattle.std.proofs.lemmas.Slice.Eq.{bytes_eq-Decides}
use Rattle.std.proofs.lemmas.Grind.{common_steps}
use Rattle.flash_format.specs.Flashmap.{text_of}
use Rattle.check_findings.specs.declared.areas.NumberedArea.{NumberedArea}
use Rattle.check_findings.specs.declared.names.AreaNames.{AreaNames}
use Rattle.check_findings.specs.Areas.{has_name}
use Rattle.check_findings.specs.Areas.{area_for, HasFirstAreas}

-- the table has the area's name, or not
is_known-in : (names : AreaNames) (before : List NumberedArea) (a : NumberedArea) (key name : List ℕ) (known : Bool) → key ≡ text_of a.area.name → is_some (area_for names key) ≡ known → HasFirstAreas names before → has_name name a ≡ true → is_some (find (has_name name) before) ≡ known
is_known-in names before a key name known is found notes same =
    ap (λ (n : List ℕ). is_some (find (has_name n) before)) ((bytes_eq-Decides name (text_of a.area.name)).0 same ∙ sym is) ∙ ap (λ (o : Option NumberedArea). is_some o) (sym (notes key)) ∙ found

pub notes-known : (names : AreaNames) (before : List NumberedArea) (a : NumberedArea) (key : List ℕ) → key ≡ text_of a.area.name → is_some (area_for names key) ≡ true → HasFirstAreas names before → HasFirstAreas names (before ++ a ∷ [])
notes-known names before a key is found notes name = grind (arith, common_steps, notes name, is_known-in names before a key name true is found notes, find-append (has_name name) before (a ∷ []))

-- the table after a new area of a name
abbrev pub Puts : AreaNames → AreaNames → NumberedArea → List ℕ → Type 0
Puts old new a text = UpdatesBy (λ x y. slice_cmp nat_cmp x.now y.now) (λ k. slice_cmp nat_cmp text k.now) old.first new.first (Some a)

pub notes-new : (old new : AreaNames) (before : List NumberedArea) (a : NumberedArea) (key : List ℕ) → key ≡ text_of a.area.name → is_some (area_for old key) ≡ false → Puts old new a key → HasFirstAreas old before → HasFirstAreas new (before ++ a ∷ [])
notes-new old new before a key is found puts notes name =
    let text = text_of a.area.name in
    let put = btree_map_updates_str text old.first new.first (Some a) (subst (Puts old new a) is puts) name in
    grind (arith, common_steps, put, nat_list_eq_equiv.symm text name, notes name, is_known-in old before a key name false is found notes, find-append (has_name name) before (a ∷ []))

-- a property of the first elements, with another element
pub one_taken : {X : Type 0} (P Q : List X → Type 0) (xs : List X) (i : ℕ) (d : X) → i < length xs → (P (take i xs) → Q (take i xs ++ get_or xs i d ∷ [])) → P (take i xs) → Q (take (i + 1) xs)
one_taken P Q xs i d lt more so_far = subst Q (sym (ap (λ k. take k xs) (add-one i) ∙ take-suc xs i d lt)) (more so_far)
