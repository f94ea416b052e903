-- Edits of two separate regions.
use Rattle.std.proofs.Common.{◌≡◌, ◌⊎◌, inl, inr, ℕ, ◌+◌, ◌≤◌, List, length, sym, ◌∙◌, ap, arith}
use Rattle.flash_device.specs.Device.{overwritten}
use Rattle.flash_device.specs.Regions.{Range, LiesIn, bytes_in}
use Rattle.flash_device.specs.Laws.{LieApart, with_edit}
use Rattle.flash_device.proofs.BytesLemmas.{overwritten-separate}
use Rattle.flash_device.proofs.RegionLemmas.{written_beside}
use Rattle.flash_device.proofs.laws.separate_edits_swap.Goals as goal

turned : (r s : Range) → LieApart r s → LieApart s r
turned r s (inl before) = inr before
turned r s (inr after) = inl after

-- an edit of a region is a write without effect on the other
seen : (image : List ℕ) (r s : Range) (u : List ℕ) (last : List ℕ → List ℕ) → LiesIn r image → LieApart r s → length u ≡ r.size → with_edit s last (overwritten image r.start u) ≡ overwritten (overwritten image r.start u) s.start (last (bytes_in s image))
seen image r s u last lies apart long =
    ap (λ (l : List ℕ). overwritten (overwritten image r.start u) s.start (last l)) (written_beside s image r.start u (omega (arith, lies)) (where_it_is apart))
  where
    where_it_is : LieApart r s → (r.start + length u ≤ s.start) ⊎ (s.start + s.size ≤ r.start)
    where_it_is (inl before) = inl (omega (arith, before, long))
    where_it_is (inr after) = inr after

writes_swap : (image : List ℕ) (r s : Range) (u v : List ℕ) → LiesIn r image → LiesIn s image → LieApart r s → length u ≡ r.size → length v ≡ s.size
    → overwritten (overwritten image r.start u) s.start v ≡ overwritten (overwritten image s.start v) r.start u
writes_swap image r s u v lies_r lies_s (inl before) long_u long_v = overwritten-separate image r.start u s.start v (omega (arith, before, long_u)) (omega (arith, lies_s))
writes_swap image r s u v lies_r lies_s (inr after) long_u long_v = sym (overwritten-separate image s.start v r.start u (omega (arith, after, long_v)) (omega (arith, lies_r)))

pub returns : goal.returns
returns c = λ image r s first last lies_r lies_s apart long_first long_last.
    seen image r s (first (bytes_in r image)) last lies_r apart long_first
    ∙ writes_swap image r s (first (bytes_in r image)) (last (bytes_in s image)) lies_r lies_s apart long_first long_last
    ∙ sym (seen image s r (last (bytes_in s image)) first lies_s (turned r s apart) long_last)
