-- A walk that has reached an offset of a region.
use Rattle.std.proofs.Common.{◌≡◌, ℕ, ◌+◌, ◌%◌, ◌≤◌, ◌⊎◌, inl, inr, IsTrue, List, length, None, refl, ap, ◌∙◌, arith}
use Rattle.std.specs.Prelude.{IsErrOf}
use Rattle.flash_device.specs.Pages.{Pages, HasRead}
use Rattle.flash_device.proofs.WindowLemmas.{HasRead-none, HasRead-then, HasRead-within}
use Rattle.flash_device.specs.Regions.{Range, LiesOn, bytes_in}
use Rattle.flash_device.proofs.DeviceLemmas.{honest_still, length-bytes_in}
use Rattle.cbfs_walk.specs.Cells.{IsCellIn}
use Rattle.cbfs_walk.specs.Walks.{StepResult, Walking, answer_at}
use Rattle.cbfs_walk.specs.declared.cell.Cell.{Cell}
use Rattle.cbfs_walk.specs.declared.walk.WalkFault.TheVariants as walk

-- the walk has reached its offset with at most n reads
pub record Reached {F : Type 0} (r : Range) (w : Walking) (n : ℕ) (old now : Pages F) : Type 0 where
  pub region : w.region ≡ r
  pub going : w.ended ≡ None
  pub inside : w.at ≤ r.size
  pub aligned : w.at % 64 ≡ 0
  pub read : HasRead n 0 old now

pub reached_start : {F : Type 0} (r : Range) (n : ℕ) (old : Pages F) → Reached r (record { region = r; at = 0; steps = 0; ended = None }) n old old
reached_start r n old =
    record { region = refl; going = refl; inside = omega arith; aligned = refl; read = HasRead-within 0 n 0 old old (omega arith) (HasRead-none old) }

-- the results of the walk on an honest device
abbrev pub Answers : {F : Type 0} → Walking → Pages F → StepResult → Type 0
Answers w now a = IsTrue now.device.honest → w.ended ≡ None → IsErrOf a walk.Device ⊎ (a ≡ answer_at (bytes_in w.region now.device.content) w.at)

module _ {F : Type 0} {r : Range} {w : Walking} {n : ℕ} {old now : Pages F} (i : Reached r w n old now) where
  -- a result without a device fault, and its offset in the region
  pub reached_answer : (a : StepResult) → LiesOn r old.device → Answers w now a → (IsErrOf a walk.Device → ⊥) → IsTrue old.device.honest
      → (let x = bytes_in r old.device.content in (a ≡ answer_at x w.at) × (w.at ≤ length x))
  reached_answer a lies answer other h = go (answer (honest_still i.read.device.calls.same_honesty h) i.going)
    where
      x : List ℕ
      x = bytes_in r old.device.content

      go : IsErrOf a walk.Device ⊎ (a ≡ answer_at (bytes_in w.region now.device.content) w.at) → (a ≡ answer_at x w.at) × (w.at ≤ length x)
      go (inl fault) = absurd (other fault)
      go (inr is) = (
        is ∙ ap (λ (k : Range). answer_at (bytes_in k now.device.content) w.at) i.region ∙ ap (λ (l : List ℕ). answer_at (bytes_in r l) w.at) (i.read.device.unchanged h),
        omega (arith, length-bytes_in r old.device.content lies.inside, i.inside),
      )

  -- the walk after a cell
  pub reached_more : (c : Cell) (m limit : ℕ) (new : Pages F) → IsCellIn w.region.size c × (c.at ≡ w.at) → HasRead m 0 now new → n + m ≤ limit
      → Reached r (record w { at = w.at + c.span; steps = w.steps + 1 }) limit old new
  reached_more c m limit new given reads few =
      let cell : IsCellIn r.size c = rw i.region at given.0 in
      record {
        region = i.region;
        going = i.going;
        inside = omega (arith, cell.inside, given.1);
        aligned = omega (arith, i.aligned, given.0.whole);
        read = HasRead-within (n + m) limit 0 old new few (HasRead-then n m 0 old now new i.read reads);
      }
