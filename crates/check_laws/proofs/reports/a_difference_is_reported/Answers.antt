use Rattle.std.proofs.Common.{◌≡◌, ◌⊎◌, inl, inr, ℕ, ◌+◌, ◌<◌, ◌≤◌, List, [], ◌∷◌, true, replicate, refl, arith}
use Rattle.std.specs.Prelude.{Some, Contains}
use Rattle.std.specs.List.{Any}
use Rattle.std.proofs.lemmas.Bool.{false≢true}
use Rattle.std.proofs.lemmas.Bool.Decides.{nat_tests}
use Rattle.std.proofs.lemmas.List.Folds.{Any-from_list_any}
use Rattle.check_changes.specs.declared.areas.change.AreaChange.{AreaChange}
use Rattle.check_changes.specs.declared.areas.change.AreaDifference.{AreaDifference}
use Rattle.check_changes.specs.declared.areas.change.AreaDifference.TheVariants as kinds
use Rattle.check_changes.specs.Areas.{area_changes, pairs}
use Rattle.check_changes.specs.Laws.{DifferAt, is_unequal, reports}
use Rattle.check_laws.specs.Samples.{inner_area}
use Rattle.check_laws.proofs.reports.a_difference_is_reported.Goals as goal

abbrev IsUnequal : AreaDifference → Type 0
IsUnequal what = (what ≡ kinds.NotCompared) ⊎ ((blocks : ℕ) × (own : ℕ) × (what ≡ kinds.Differs blocks own) × (0 < own))

unequal : (what : AreaDifference) → is_unequal what ≡ true → IsUnequal what
unequal (kinds.Differs blocks own) is = inr (blocks, own, refl, grind (arith, nat_tests, is))
unequal kinds.NotCompared is = inl refl
unequal kinds.Added is = absurd (false≢true is)
unequal kinds.Gone is = absurd (false≢true is)
unequal (kinds.MovedFrom at) is = absurd (false≢true is)
unequal (kinds.ResizedFrom n) is = absurd (false≢true is)
unequal (kinds.FlagsFrom n) is = absurd (false≢true is)

abbrev Reports : ℕ → AreaChange → Type 0
Reports at change = (change.area.area.offset ≤ at) × (at < change.area.area.offset + change.area.area.size) × IsUnequal change.what

reported : (at : ℕ) (change : AreaChange) → reports at change ≡ true → Reports at change
reported at change is = (grind (arith, nat_tests, is), grind (arith, nat_tests, is), unequal change.what (grind (arith, is)))

some_reported : (at : ℕ) (changes : List AreaChange) → Any (λ change. reports at change ≡ true) changes → Any (Reports at) changes
some_reported at changes some = (some.0, some.1, some.2, some.3, reported at some.1 some.4)

differ : DifferAt (replicate 8 0) (0 ∷ 0 ∷ 0 ∷ 0 ∷ 0 ∷ 1 ∷ 0 ∷ 0 ∷ []) inner_area inner_area 3
differ = record { same_size = refl; in_old = omega arith; in_new = omega arith; within = omega arith; differ = λ same. cc }

pub returns : goal.returns
returns c =
    let there : Contains (pairs (inner_area ∷ []) (inner_area ∷ [])) (record { old = Some inner_area; new = inner_area }) = (0, omega arith, refl) in
    let changes : List AreaChange = area_changes (replicate 8 0) (inner_area ∷ []) (0 ∷ 0 ∷ 0 ∷ 0 ∷ 0 ∷ 1 ∷ 0 ∷ 0 ∷ []) (inner_area ∷ []) in
    some_reported 5 changes (Any-from_list_any (reports 5) changes (c.differences_are_reported.ensures _ _ _ _ inner_area inner_area 3 there differ))
