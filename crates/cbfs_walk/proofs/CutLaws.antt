-- A walk's result, against the region's cut.
use Rattle.std.proofs.Common.{◌≡◌, ℕ, ◌+◌, ◌%◌, ◌<◌, ◌≤◌, Bool, true, false, cond, List, [], ◌∷◌, length, drop, Some, None, Result, Ok, Err, refl, sym, ap, subst, ◌∙◌, arith, eqb, length-take, length-drop, not, ◌&&◌}
use Rattle.std.specs.Prelude.{slice_range, is_some}
use Rattle.std.proofs.lemmas.List.{drop-drop}
use Rattle.std.proofs.lemmas.Grind.{common_steps}
use Rattle.flash_format.specs.declared.head.Head.{Head}
use Rattle.flash_format.specs.declared.head.Extent.{Extent}
use Rattle.flash_format.specs.declared.head.DamageKind.{DamageKind}
use Rattle.flash_format.specs.declared.head.DamageKind.TheVariants as kinds
use Rattle.flash_format.specs.Head.{head_of, is_free}
use Rattle.flash_format.specs.Entry.{Entry, absent, damaged, cell, entry, present, component, name_field, is_terminated, attribute_field, attributes}
use Rattle.flash_format.specs.Cut.{after, cut}
use Rattle.flash_format.proofs.CutSteps.{cell_is, cut_empty, cut_step, cut_cell}
use Rattle.flash_format.proofs.EntryLaws.{from_head, present_by}
use Rattle.flash_format.proofs.Fronts.{head_of-take, range-take}
use Rattle.flash_device.specs.Regions.{Range, LiesIn, bytes_in}
use Rattle.cbfs_walk.specs.Cells.{IsCellIn, cell_in}
use Rattle.std.specs.Option.{option_map_or}
use Rattle.flash_format.specs.Entry.{front}
use Rattle.cbfs_walk.specs.Shapes.{has_bad_size}
use Rattle.cbfs_walk.specs.Walks.{answer_at, answer_by, StandsIn}
use Rattle.cbfs_walk.specs.Laws.{GoesOn, CellBytes}
use Rattle.cbfs_walk.specs.declared.cell.Cell.{Cell}
use Rattle.cbfs_walk.specs.declared.walk.Step.TheVariants as steps
use Rattle.cbfs_walk.specs.declared.walk.WalkFault.TheVariants as walk
use Rattle.cbfs_walk.proofs.Checks.{IsGood, checks_give, checked_extent}
use Rattle.cbfs_walk.proofs.Parts.{range_is, range-drop, part-in, length-region}

-- the cell, and the later cut
pub cut_at : (x : List ℕ) (at span : ℕ) → 0 < length (drop at x) → entry (drop at x) ≡ cell span → cut (drop at x) ≡ after (slice_range x at (at + span) ∷ []) (cut (drop (at + span) x))
cut_at x at span some is = cut_cell (drop at x) span some is ∙ ap (λ c. after (c ∷ []) (cut (drop span (drop at x)))) (sym (range_is x at span)) ∙ ap (λ l. after (slice_range x at (at + span) ∷ []) (cut l)) (drop-drop span at x)

pub walks_follow : (x : List ℕ) (at : ℕ) → at ≤ length x → at % 64 ≡ 0 → GoesOn x at (answer_at x at)
unfolding answer_at
walks_follow x at inside aligned = go (has_bad_size (length x)) (eqb at 0 && not (is_some (front x))) (eqb (length (drop at x)) 0) refl refl refl
  where
    by_entry : (e : Entry) → entry (drop at x) ≡ e → 0 < length (drop at x) → GoesOn x at (answer_by (drop at x) at e)
    by_entry absent is some = (refl, cut_step (drop at x) absent some is)
    by_entry (damaged k) is some = (refl, cut_step (drop at x) (damaged k) some is)
    by_entry (cell span) is some = (refl, cut_at x at span some is)

    go : (b m n : Bool) → has_bad_size (length x) ≡ b → (eqb at 0 && not (is_some (front x))) ≡ m → eqb (length (drop at x)) 0 ≡ n
        → GoesOn x at (option_map_or (λ fault. Err fault) (cond b (Some walk.RegionShape) (cond m (Some walk.NotCbfs) None)) (cond n (Ok steps.End) (answer_by (drop at x) at (entry (drop at x)))))
    go true m n e z f = rw e refl
    go false true n e z f = rw (e, z) refl
    go false false true e z f =
        let none : length (drop at x) ≡ 0 = grind (arith, common_steps) in
        (omega (arith, length-drop at x, inside), cut_empty (drop at x) none)
    go false false false e z f = by_entry (entry (drop at x)) refl (grind (arith, common_steps))

-- ---- a cell in a region

pub record Standing (x : List ℕ) (c : Cell) : Type 0 where
  pub some : 0 < length (drop c.at x)
  pub entry : entry (drop c.at x) ≡ cell c.span
  pub head : c.head ≡ head_of (drop c.at x)

pub standing : (x : List ℕ) (c : Cell) → StandsIn x c → Standing x c
unfolding answer_at
standing x c e = grind (arith, common_steps)

-- a cell's head equals the head in its bytes
pub cell_head : (x : List ℕ) (c : Cell) → Standing x c → 64 ≤ c.span → head_of (cell_in x c) ≡ c.head
cell_head x c s positive = ap head_of (range_is x c.at c.span) ∙ head_of-take (drop c.at x) c.span (omega (arith, positive)) ∙ sym s.head

pub cell_len : (x : List ℕ) (size : ℕ) (c : Cell) → length x ≡ size → IsCellIn size c → length (cell_in x c) ≡ c.span
cell_len x size c len is = ap length (range_is x c.at c.span) ∙ omega (arith, length-take c.span (drop c.at x), length-drop c.at x, len, is.inside)

-- a part of a cell is a part of the region
pub cell_part : (x : List ℕ) (c : Cell) (a b : ℕ) → b ≤ c.span → slice_range (cell_in x c) a b ≡ slice_range x (c.at + a) (c.at + b)
cell_part x c a b le = ap (λ l. slice_range l a b) (range_is x c.at c.span) ∙ range-take (drop c.at x) c.span a b le ∙ range-drop x c.at a b

pub cells_stand : (region : Range) (image : List ℕ) (c : Cell) → LiesIn region image → IsCellIn region.size c → StandsIn (bytes_in region image) c → CellBytes region image c
cells_stand region image c lies is stands =
    let x = bytes_in region image in
    let head = cell_head x c (standing x c stands) is.positive in
    let size : length x ≡ region.size = length-region region image lies in
    let first = c.at + c.head.offset in
    let there : region.start + first ≡ region.start + c.at + c.head.offset = omega arith in
    let end : first + c.head.len ≡ c.at + (c.head.offset + c.head.len) = omega arith in
    record {
      head = head;
      span = cell_len x region.size c size is;
      content =
          ap (λ (h : Head). slice_range (cell_in x c) h.offset (h.offset + h.len)) head
          ∙ cell_part x c c.head.offset (c.head.offset + c.head.len) is.content
          ∙ (rw (there, end) at (sym (part-in image region first c.head.len (omega (arith, is.content, is.inside)))));
    }

-- ---- a component in a region

-- the checks of more than the head
pub record IsWhole (x : List ℕ) : Type 0 where
  pub named : is_terminated (name_field (head_of x) x) ≡ true
  pub formed : is_some (attributes (attribute_field (head_of x) x)) ≡ true

pub component_whole : (x : List ℕ) (span : ℕ) → entry x ≡ cell span → is_free (head_of x) ≡ false → IsWhole x
component_whole x span e used =
    let c = cell_is x span e in
    let tests : component (head_of x) x c.extent.span ≡ cell span =
    sym (present_by false (head_of x) x c.extent used) ∙ ap (λ (r : Result Extent DamageKind). present (head_of x) x r) (sym c.checks) ∙ sym (from_head x (head_of x) c.long c.head) ∙ e in
    let parts = go c.extent.span (is_terminated (name_field (head_of x) x)) (is_some (attributes (attribute_field (head_of x) x))) tests in
    record { named = parts.0; formed = parts.1 }
  where
    go : (n : ℕ) (a b : Bool) → (let k : Entry = cond (not a) (damaged kinds.Name) (cond (not b) (damaged kinds.AttrLength) (cell n)) in k) ≡ cell span → (a ≡ true) × (b ≡ true)
    go n true true p = (refl, refl)
    go n _ _ p = absurd cc

pub standing_good : (x : List ℕ) (c : Cell) → Standing x c → IsGood (length (drop c.at x)) c.head c.span
standing_good x c s =
    let k = cell_is (drop c.at x) c.span s.entry in
    let is = checked_extent (head_of (drop c.at x)) (length (drop c.at x)) k.extent (sym k.checks) in
    let good = checks_give (length (drop c.at x)) (head_of (drop c.at x)) k.extent.span is in
    subst (λ (h : Head). IsGood (length (drop c.at x)) h c.span) (sym s.head)
    (subst (λ (n : ℕ). IsGood (length (drop c.at x)) (head_of (drop c.at x)) n) k.spans good)
