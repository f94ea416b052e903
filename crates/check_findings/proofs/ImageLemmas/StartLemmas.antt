-- The offsets of areas, in order.
use Rattle.std.proofs.Common.{Bool, ◌≡◌, ◌≤◌, true, false, List, [], ◌∷◌, ◌++◌, Some, ap, arith}
use Rattle.std.specs.Ordering.{nat_cmp}
use Rattle.std.specs.BTreeMap.{Updates}
use Rattle.std.proofs.lemmas.Grind.{common_steps}
use Rattle.std.proofs.lemmas.List.Folds.{list_any-append}
use Rattle.check_findings.specs.declared.areas.NumberedArea.{NumberedArea}
use Rattle.check_findings.specs.declared.image.starts.Starts.{Starts}
use Rattle.check_findings.specs.ImageFindings.{has_smaller, knows_smaller}
use Rattle.std.proofs.Math.Path.{fun_ext}

-- an area without room for an entry, or not smaller than a known one
pub start_same : (starts : Starts) (before : List NumberedArea) (a : NumberedArea) → (24 ≤ a.area.size → knows_smaller starts a ≡ true) → knows_smaller starts ≡ has_smaller before → knows_smaller starts ≡ has_smaller (before ++ a ∷ [])
start_same starts before a known has = fun_ext (λ b. let had = ap (λ (f : NumberedArea → Bool). f b) has in grind (arith, common_steps, list_any-append, had, known))

pub start_new : (old new : Starts) (before : List NumberedArea) (a : NumberedArea) → 24 ≤ a.area.size → knows_smaller old a ≡ false → Updates nat_cmp old.smallest new.smallest a.area.offset (Some a.area.size)
    → knows_smaller old ≡ has_smaller before → knows_smaller new ≡ has_smaller (before ++ a ∷ [])
start_new old new before a le unknown puts has = fun_ext (λ b. let had = ap (λ (f : NumberedArea → Bool). f b) has in grind (arith, common_steps, list_any-append, had, puts.0 b.area.offset))
