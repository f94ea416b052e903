-- Regions of two images with equal bytes.
use Rattle.std.proofs.Common.{◌≡◌, ◌∙◌, ℕ, ◌+◌, ◌*◌, ◌≤◌, Bool, true, false, List, ◌++◌, length, take, sym, ap, arith}
use Rattle.std.specs.Prelude.{not, slice_range}
use Rattle.std.specs.Str.{bytes_eq}
use Rattle.std.proofs.Math.Seq.{take-add}
use Rattle.std.proofs.lemmas.Bool.{false_from_ne_true}
use Rattle.std.proofs.lemmas.List.{take_all}
use Rattle.std.proofs.lemmas.Slice.Eq.{bytes_eq-Decides}
use Rattle.flash_device.specs.Regions.{Range, bytes_in}
use Rattle.cbfs_walk.proofs.Parts.{part-in}
use Rattle.check_changes.specs.Areas.{differs}
use Rattle.check_changes.proofs.AreaLemmas.BlockLemmas.{block}

-- a range of a region as a region of the image
pub bytes_in-part : (image : List ℕ) (r part : Range) (start at n end : ℕ)
    → part ≡ record { start = start + at; size = n } → start ≡ r.start → at + n ≡ end → end ≤ r.size
    → bytes_in part image ≡ slice_range (bytes_in r image) at end
bytes_in-part image r part start at n end is begins ends inside =
    ap (λ (q : Range). bytes_in q image) is
    ∙ ap (λ k. slice_range image (k + at) (k + at + n)) begins
    ∙ part-in image r at n (omega (arith, ends, inside))
    ∙ ap (λ k. slice_range (bytes_in r image) at k) ends

-- the blocks below this number are equal
abbrev pub AreSame : ℕ → List ℕ → List ℕ → Type 0
AreSame number x y = take (4096 * number) x ≡ take (4096 * number) y

true_of_not : (b : Bool) → not b ≡ false → b ≡ true
true_of_not true is = cc
true_of_not false is = absurd cc

module _ (x y : List ℕ) (number : ℕ) (different : Bool) (piece : different ≡ differs x y number) where
  pub same-more : different ≡ false → AreSame number x y → AreSame (number + 1) x y
  same-more is so_far =
      let next : block number x ≡ block number y = (bytes_eq-Decides _ _).0 (true_of_not _ (sym piece ∙ is)) in
      let one : 4096 * (number + 1) ≡ 4096 * number + 4096 = omega arith in
      ap (λ k. take k x) one ∙ take-add (4096 * number) 4096 x
      ∙ ap (λ (l : List ℕ). l ++ block number x) so_far ∙ ap (λ (l : List ℕ). take (4096 * number) y ++ l) next
      ∙ sym (take-add (4096 * number) 4096 y) ∙ ap (λ k. take k y) (sym one)

  pub differ-all : different ≡ true → false ≡ bytes_eq x y
  differ-all is = sym (false_from_ne_true _ (λ all.
      let same : bytes_eq (block number x) (block number y) ≡ true = (bytes_eq-Decides _ _).1 (ap (block number) ((bytes_eq-Decides x y).0 all)) in
      let none : differs x y number ≡ false = ap not same in
      cc))

pub same-all : (x y : List ℕ) (number : ℕ) → length x ≤ 4096 * number → length y ≤ 4096 * number
    → AreSame number x y → true ≡ bytes_eq x y
same-all x y number x_ends y_ends same =
    sym ((bytes_eq-Decides x y).1 (sym (take_all _ x x_ends) ∙ same ∙ take_all _ y y_ends))
