-- Changes within a range, and the region's last four bytes.
use Rattle.std.proofs.Common.{◌≡◌, ℕ, ◌-◌, ◌<◌, ◌≤◌, Bool, true, false, cond, List, length, Option, Some, None, ap, refl, arith, length-drop, ◌⊎◌, inl, inr, ◌+◌, sym, ◌∙◌, subst}
use Rattle.std.specs.Prelude.{◌==◌, is_some}
use Rattle.std.proofs.lemmas.Bool.{cond_both, ne_eqb}
use Rattle.flash_format.proofs.MadeLaws.{KeepsFour}
use Rattle.cbfs_edit.specs.Removals.{last_four, kept_at}
use Rattle.flash_device.specs.Device.{SameOutside, overwritten}
use Rattle.flash_device.proofs.BytesLemmas.{SameOutside-overwritten, SameOutside-trans}
use Rattle.std.specs.Prelude.{OnOk}
use Rattle.std.proofs.Common.{IsTrue, Result, Ok, Err}
use Rattle.std.proofs.lemmas.List.{take_all}
use Rattle.std.proofs.lemmas.Result.{on_ok_weaker}
use Rattle.flash_device.specs.Device.{Device}
use Rattle.flash_device.specs.Pages.{HasCopiedIn, as_copy, copy_fault}
use Rattle.flash_device.specs.Pages as copies
use Rattle.flash_device.specs.Regions.{Range, LiesIn, bytes_in}
use Rattle.flash_device.specs.declared.paged.CopyInFault.{CopyInFault}
use Rattle.flash_device.specs.declared.paged.CopyFault.{CopyFault}
use Rattle.flash_device.specs.declared.paged.CopyInFault.TheVariants as causes
use Rattle.flash_device.proofs.RegionLemmas.{outside_of, changed_at, written_ok}
use Rattle.cbfs_edit.specs.Changes.{by_device, by_source, copy_edit_fault}

-- ---- the last four bytes of a region

pub length-last_four : (x : List ℕ) → 4 ≤ length x → length (last_four x) ≡ 4
length-last_four x some = omega (arith, length-drop (length x - 4) x)

pub keeps : (x : List ℕ) (end : ℕ) → 4 ≤ length x → KeepsFour (kept_at x end)
keeps x end some = cond_both (end == length x) (Some (last_four x)) None (λ (o : Option (List ℕ)). KeepsFour o) (λ e. length-last_four x some) (λ e. tt)

pub is_some-cond : (b : Bool) (last : List ℕ) → is_some (cond b (Some last) None) ≡ b
is_some-cond true last = refl
is_some-cond false last = refl

-- a cell that ends before the region's end preserves nothing
pub kept-none : (x : List ℕ) (end : ℕ) → end < length x → kept_at x end ≡ None
kept-none x end below = ap (λ b. cond b (Some (last_four x)) None) (ne_eqb end (length x) (λ e. absurd (omega (arith, e, below))))

-- ---- changes within a range

pub unchanged : (x : List ℕ) (at n : ℕ) → SameOutside at n x x
unchanged x at n = record { before = refl; after = refl }

-- a complete or absent write
pub whole-outside : (x y : List ℕ) (at n : ℕ) (u : List ℕ) → length u ≡ n → at ≤ length x → (y ≡ x) ⊎ (y ≡ overwritten x at u) → SameOutside at n x y
whole-outside x y at n u long inside (inl same) = subst (λ (l : List ℕ). SameOutside at n x l) (sym same) (unchanged x at n)
whole-outside x y at n u long inside (inr is) = subst (λ (l : List ℕ). SameOutside at n x l) (sym is) (SameOutside-overwritten x at n u (omega (arith, long)) inside)

pub within : (y z : List ℕ) (at n from to : ℕ) → from ≤ at → at + n ≤ to → SameOutside at n y z → SameOutside from (to - from) y z
within y z at n from to after before same =
    let place : from + (at - from) ≡ at = omega arith in
    SameOutside-trans y y z from (to - from) (at - from) n (omega arith) (unchanged y from (to - from)) (subst (λ p. SameOutside p n y z) (sym place) same)

-- two changes of a range
pub again : (x y z : List ℕ) (at n : ℕ) → SameOutside at n x y → SameOutside at n y z → SameOutside at n x z
again x y z at n first second = record { before = second.before ∙ first.before; after = second.after ∙ first.after }

-- ---- a copy to an offset in a region

copied_ok : {T : Type 0} (P : Type 0) (r : Result T CopyInFault) → OnOk (as_copy r) P → OnOk r P
copied_ok P (Ok value) done = done
copied_ok P (Err fault) done = done

pub copy-counts : (fault : CopyInFault) → (copies.by_device (copy_fault fault) ≡ by_device (copy_edit_fault fault)) × (copies.by_source (copy_fault fault) ≡ by_source (copy_edit_fault fault))
copy-counts causes.Device = (refl, refl)
copy-counts causes.Source = (refl, refl)

-- without a source fault
pub device-told : (fault : CopyInFault) → copies.by_source (copy_fault fault) ≡ 0 → copies.by_device (copy_fault fault) ≡ 1
device-told causes.Device none = refl
device-told causes.Source none = absurd (omega (arith, none))

module _ {T : Type 0} (r : Range) (at p : ℕ) (old new source source_now : Device) (place : p ≡ r.start + at) (fits : at + length source.content ≤ r.size) where
  pub copy-outside : (told : Result T CopyFault) → HasCopiedIn p (length source.content) old new source source_now told → IsTrue old.honest → SameOutside r.start r.size old.content new.content
  copy-outside told copy honest = outside_of r old.content new.content p at (length source.content) place fits (copy.outside honest)

  pub copy-torn : (told : Result T CopyFault) → HasCopiedIn p (length source.content) old new source source_now told → IsTrue old.honest → SameOutside at (length source.content) (bytes_in r old.content) (bytes_in r new.content)
  copy-torn told copy honest = changed_at r old.content new.content p at (length source.content) place fits (copy.outside honest)

  pub copy-done : (result : Result T CopyInFault) → HasCopiedIn p (length source.content) old new source source_now (as_copy result) → LiesIn r old.content → IsTrue old.honest → IsTrue source.honest → OnOk result (bytes_in r new.content ≡ overwritten (bytes_in r old.content) at source.content)
  copy-done result copy lies honest source_honest =
      written_ok result r old.content new.content p at (length source.content) source.content lies place refl fits
      (on_ok_weaker result (λ e. e ∙ ap (λ (l : List ℕ). overwritten old.content p l) (take_all (length source.content) source.content (omega arith))) (copied_ok _ result (copy.copied honest source_honest)))
