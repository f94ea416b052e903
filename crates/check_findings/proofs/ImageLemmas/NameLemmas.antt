-- Names, in order.
use Rattle.std.proofs.Common.{ap, arith, ◌≡◌, cond, Some, ℕ, ◌+◌, ◌<◌, Bool, not, List, [], ◌∷◌, ◌++◌, length, get_or, drop, sym, append_assoc}
use Rattle.std.proofs.lemmas.List.{drop_more, map-append}
use Rattle.std.specs.Prelude.{is_some}
use Rattle.std.specs.Ordering.{nat_cmp}
use Rattle.std.specs.Cmp.Lexicographic.{slice_cmp}
use Rattle.std.specs.BTreeMap.{UpdatesBy}
use Rattle.std.proofs.lemmas.List.Folds.{list_any-append}
use Rattle.std.proofs.lemmas.Map.Text.{btree_map_updates_str}
use Rattle.check_findings.specs.declared.image.names.NameSet.{NameSet}
use Rattle.check_findings.specs.ImageFindings.{has_one_of, is_named_in}
use Rattle.std.proofs.Math.Path.{fun_ext}
use Rattle.flash_format.specs.Flashmap.{is_area, text_of}
use Rattle.check_findings.specs.Areas.{has_name}
use Rattle.std.specs.Borrow.{Bor}
use Rattle.std.specs.List.{enumerate_from, find, flat_map}
use Rattle.std.proofs.lemmas.Grind.{common_steps}
use Rattle.check_findings.specs.declared.areas.NumberedArea.{NumberedArea}
use Rattle.check_findings.specs.declared.image.finding.ImageFinding.{ImageFinding}
use Rattle.check_findings.specs.declared.image.finding.ImageFinding.TheVariants.{NoArea}
use Rattle.check_findings.specs.ImageFindings.{missing_name, names_in}

pub has_more : (set : NameSet) (before : List (List ℕ)) (names : List (Bor (List ℕ))) (name : Bor (List ℕ)) → is_named_in set ≡ has_one_of ((before ++ names_in names) ++ name.now ∷ []) → is_named_in set ≡ has_one_of (before ++ names_in (names ++ name ∷ []))
has_more set before names name has = rw (map-append (λ (n : Bor (List ℕ)). n.now) names (name ∷ []), sym (append_assoc before (names_in names) (name.now ∷ []))) has

-- another name
pub one_more : (old new : NameSet) (before : List (List ℕ)) (bs : List ℕ) (x : Unit {0}) → UpdatesBy (λ x y. slice_cmp nat_cmp x.now y.now) (λ k. slice_cmp nat_cmp bs k.now) old.names new.names (Some x) → is_named_in old ≡ has_one_of before → is_named_in new ≡ has_one_of (before ++ bs ∷ [])
one_more old new before bs x puts has = fun_ext (λ a.
    let had = ap (λ (f : NumberedArea → Bool). f a) has in
    grind (arith, common_steps, list_any-append (λ n. is_area n a.area) before (bs ∷ []), btree_map_updates_str bs old.names new.names (Some x) puts (text_of a.area.name), had))

-- a finding for another name
pub missing_more : (areas : List NumberedArea) (names : List (Bor (List ℕ))) (i : ℕ) (d : Bor (List ℕ)) (missing : Bool) (before after all : List ImageFinding) → i < length names → is_some (find (has_name (get_or names i d).now) areas) ≡ not missing
    → after ≡ before ++ cond missing (NoArea i ∷ []) [] → before ++ flat_map (missing_name areas) (enumerate_from i (names_in (drop i names))) ≡ all → after ++ flat_map (missing_name areas) (enumerate_from (i + 1) (names_in (drop (i + 1) names))) ≡ all
missing_more areas names i d missing before after all lt is pushed so_far = grind (arith, common_steps, append_assoc, drop_more names i d lt, is, pushed, so_far)
