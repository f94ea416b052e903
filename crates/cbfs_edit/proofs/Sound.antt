-- A sound region.
use Rattle.std.proofs.Common.{◌≡◌, ℕ, ◌%◌, Bool, true, false, cond, List, length, Option, Some, None, Result, Ok, Err, refl, sym}
use Rattle.std.specs.Prelude.{ok_or}
use Rattle.flash_format.specs.Cut.{End, damage, cut}
use Rattle.std.specs.Option.{option_map_or}
use Rattle.flash_format.specs.Entry.{front}
use Rattle.std.specs.Prelude.{is_some}
use Rattle.std.specs.Prelude.{not}
use Rattle.cbfs_walk.specs.Shapes.{has_bad_size}
use Rattle.cbfs_walk.specs.CellReadings.{place_after}
use Rattle.cbfs_walk.proofs.StepResults.{good_size}
use Rattle.cbfs_edit.specs.Removals.{edit_fault_of, unless_damaged, unless_unsound}
use Rattle.cbfs_edit.specs.declared.fault.EditFault.{EditFault}
use Rattle.cbfs_edit.specs.declared.group.CellRange.{CellRange}
use Rattle.cbfs_walk.specs.declared.walk.WalkFault.TheVariants as walk

-- valid size, and no damage
pub record IsSound (x : List ℕ) : Type 0 where
  pub whole : length x % 64 ≡ 0
  pub undamaged : (at : ℕ) (r : Result CellRange EditFault) → unless_damaged at (cut x).end r ≡ r

pub record IsAccepted {A : Type 0} (x : List ℕ) (r : Result A EditFault) (a : A) : Type 0 where
  pub sound : IsSound x
  pub is : r ≡ Ok a

pub accepted_by : {A : Type 0} (x : List ℕ) (r : Result A EditFault) (a : A) → unless_unsound x r ≡ Ok a → IsAccepted x r a
accepted_by {A} x r a is = go (has_bad_size (length x)) (not (is_some (front x))) (cut x).end refl refl is
  where
    go : (b n : Bool) (e : End) → has_bad_size (length x) ≡ b → e ≡ (cut x).end
        → option_map_or (λ fault. Err (edit_fault_of fault)) (cond b (Some walk.RegionShape) (cond n (Some walk.NotCbfs) None)) (unless_damaged (place_after 0 (cut x).cells) e r) ≡ Ok a → IsAccepted x r a
    go true n e size ends p = absurd cc
    go false true e size ends p = absurd cc
    go false false (damage kind) size ends p = absurd cc
    go false false other size ends p = record { sound = record { whole = good_size (length x) (sym size); undamaged = λ at s. rw (← ends) refl }; is = p }

pub found-some : {A : Type 0} (o : Option A) (fault : EditFault) (a : A) → ok_or o fault ≡ Ok a → o ≡ Some a
found-some None fault a is = absurd cc
found-some (Some b) fault a is = cc
