-- Walks over the cells of a region, and ordered reads.
use Rattle.std.specs.Prelude.{◌≡◌, ◌⊎◌, ◌*◌, ◌≤◌, ℕ, ◌+◌, ◌-◌, ◌/◌, List, Result, length, drop, Option, Some, Ok, Err, ◌==◌, if◌then◌else◌, ⊤, IfOk}
use Rattle.flash_device.specs.Device.{refusals}
use Rattle.flash_device.specs.Pages.{Pages, Covers, HasRead, OnHonestIn, Returns}
use Rattle.flash_device.specs.Regions.{Range}
use Rattle.flash_format.specs.Head.{head_of}
use Rattle.flash_format.specs.Entry.{Entry, absent, damaged, cell, entry}
use Rattle.cbfs_walk.specs.Cells.{IsCellIn, cell_in}
use Rattle.std.specs.Option.{option_map_or}
use Rattle.cbfs_walk.specs.Shapes.{shape_fault_at}
use Rattle.cbfs_walk.specs.declared.cell.Cell.{Cell}
use Rattle.cbfs_walk.specs.declared.walk.Step.{Step}
use Rattle.cbfs_walk.specs.declared.walk.Step.TheVariants as steps
use Rattle.cbfs_walk.specs.declared.walk.WalkFault.{WalkFault}
use Rattle.cbfs_walk.specs.declared.walk.WalkFault.TheVariants as faults

-- device calls for n bytes in ordered reads of at most 256 bytes: one, and another per 3840 bytes
abbrev pub reads_over : ℕ → ℕ
reads_over n = 1 + n / 3840

-- a read of `len` bytes at `place`, not before `from`, which needs a call
abbrev pub IsLoad : {F : Type 0} → Pages F → ℕ → ℕ → ℕ → Type 0
IsLoad pages from place len = (from ≤ place) × (len ≤ 256)
    × (place + len ≤ length pages.device.content) × (Covers pages.held place len → ⊥)

-- The distance to `reach` covers the calls between two states. The first state has a load at some
-- `place`, at or after `from`, and each call takes 3840 bytes of the distance from it:
-- 3840 * (calls of new - calls of old) ≤ reach - place.
abbrev pub ArePaid : {F : Type 0} → Pages F → Pages F → ℕ → ℕ → Type 0
ArePaid old new from reach = (place : ℕ) × (len : ℕ) × IsLoad old from place len
    × (3840 * new.device.calls + place ≤ 3840 * old.device.calls + reach)

-- Ordered reads between two positions of a region, with the number of faults. A load fills the
-- buffer with 4096 bytes, and a read has at most 256 bytes. Therefore the next read that needs a
-- load begins at least 3840 bytes after the previous load. `paid` describes each load that can
-- follow the ordered reads: the distance to the load covers all calls of the reads. `spent`
-- describes the end of the reads: the distance to the end covers all calls except the last call,
-- or no read needed a call.
--
-- For example, the buffer is empty, and the region begins at 0. A read of 100 bytes at 0 loads the
-- bytes 0 to 4096. A read of 200 bytes at 4000 then loads 4000 to 8096. These are 2 calls, and the
-- reads end at 4200. The first state has a load at 0, so `spent` holds:
-- 3840 * 2 ≤ (4200 + 3840) - 0. A later load begins after 7840, for example that of a read of 200
-- bytes at 7900. For it `paid` holds: 3840 * 2 ≤ 7900 - 0.
pub record Passes {F : Type 0} (region : Range) (at end refused : ℕ) (old new : Pages F)
    : Type 0 where
  pub order : at ≤ end
  pub read : HasRead (reads_over (end - at)) refused old new
  pub paid : refused ≡ 0 → (place len : ℕ) → IsLoad new (region.start + end) place len
      → ArePaid old new (region.start + at) place
  pub spent : (new.device.calls ≤ old.device.calls)
      ⊎ ArePaid old new (region.start + at) (region.start + end + 3840)

-- ordered reads by a function that fails if a read fails; on an honest device, the value of a
-- success satisfies `Is` for the bytes of the region
pub record ReadsIn {F T E : Type 0} (region : Range) (at end : ℕ) (old new : Pages F)
    (result : Result T E) (Is : List ℕ → T → Type 0) : Type 0 where
  pub passed : Passes region at end (refusals result) old new
  pub value : OnHonestIn old.device region (λ x. IfOk result (Is x))

abbrev pub StepResult : Type 0
StepResult = Result Step WalkFault

-- `steps` counts the cells; `ended` is the last result after the end
pub record Walking : Type 0 where
  pub region : Range
  pub at : ℕ
  pub steps : ℕ
  pub ended : Option StepResult

-- ---- results

abbrev pub answer_by : List ℕ → ℕ → Entry → StepResult
answer_by rest at absent = Ok (steps.Tail at)
answer_by rest at (damaged kind) = Err (faults.Damaged at kind)
answer_by rest at (cell span) =
    Ok (steps.Cell (record { at = at; head = head_of rest; span = span }))

unfoldable pub answer_at : List ℕ → ℕ → StepResult
answer_at x at = let rest = drop at x in option_map_or (λ fault. Err fault) (shape_fault_at x at)
    (if length rest == 0 then Ok steps.End else answer_by rest at (entry rest))

-- a walk returns the cell at its position
abbrev pub StandsIn : List ℕ → Cell → Type 0
StandsIn x c = answer_at x c.at ≡ Ok (steps.Cell c)

-- on an honest device, success returns a function of the cell's bytes
abbrev pub ReadsCellAs : {F T E : Type 0} → Pages F → Range → Cell → Result T E
    → (List ℕ → T) → Type 0
ReadsCellAs old region c result answer = OnHonestIn old.device region
    (λ x. StandsIn x c → Returns result (answer (cell_in x c)))

abbrev pub by_device : WalkFault → ℕ
by_device faults.Device = 1
by_device _ = 0

-- ---- the state after a result

-- a cell moves the walk, a device fault doesn't, any other result ends the walk
abbrev pub walk_after : Walking → StepResult → Walking
walk_after w (Ok (steps.Cell c)) = record w { at = w.at + c.span; steps = w.steps + 1 }
walk_after w (Err faults.Device) = w
walk_after w answer = record w { ended = Some answer }

-- a resulting cell lies in the region, at the given position
abbrev pub GivesCell : ℕ → ℕ → StepResult → Type 0
GivesCell size at (Ok (steps.Cell c)) = IsCellIn size c × (c.at ≡ at)
GivesCell size at _ = ⊤

-- ---- the maximum number of device calls

abbrev pub reads_at : ℕ → ℕ → StepResult → ℕ
reads_at size at (Ok (steps.Cell c)) = reads_over c.span
reads_at size at _ = reads_over (size - at)
