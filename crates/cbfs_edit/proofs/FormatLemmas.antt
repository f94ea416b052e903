-- Formatting.
use Rattle.std.proofs.lemmas.Grind.{common_steps}
use Rattle.std.proofs.Common.{◌≡◌, ◌≢◌, false, ◌⊎◌, inl, inr, ℕ, ◌+◌, ◌-◌, ◌%◌, ◌^◌, ◌<◌, ◌≤◌, Bool, true, Some, List, [], ◌∷◌, ◌++◌, length, drop, sym, ◌∙◌, ap, refl, arith, length-append}
use Rattle.std.specs.Prelude.{◌==◌}
use Rattle.std.proofs.lemmas.List.{append-nil, drop_all}
use Rattle.std.proofs.lemmas.Bool.{eq-eqb}
use Rattle.std.proofs.lemmas.List.Elements.{All-nil, All-cons}
use Rattle.flash_format.specs.Head.{head_of, is_free}
use Rattle.flash_format.specs.Made.{header_length, empty_header, padding}
use Rattle.flash_format.specs.Entry.{entry, cell}
use Rattle.flash_format.specs.Cut.{complete, IsCell}
use Rattle.flash_format.proofs.CutLaws.{cut_unique}
use Rattle.flash_format.proofs.EmptyEntryLaws.{empty_header-cell, length-empty_header}
use Rattle.flash_format.proofs.MadeLaws.{length-padding}
use Rattle.flash_device.specs.Device.{overwritten}
use Rattle.flash_device.proofs.BytesLemmas.{further}
use Rattle.cbfs_walk.specs.Shapes.{has_bad_size}
use Rattle.cbfs_walk.proofs.StepResults.{good_size as whole_size}
use Rattle.cbfs_edit.specs.Removals.{IsCellRange, removed, last_four, space_end}
use Rattle.cbfs_edit.specs.Changes.{formatted, IsOneFreeCell}
use Rattle.cbfs_edit.specs.declared.group.CellRange.{CellRange}
use Rattle.cbfs_edit.proofs.EmptyEntries.{IsOldOrEmptied, emptied-bytes, emptied-outside, emptied-wider, space_end-below, space_end-near}
use Rattle.cbfs_edit.proofs.Changes.{length-last_four}

overwritten-whole : (x u : List ℕ) → length u ≡ length x → overwritten x 0 u ≡ u
overwritten-whole x u size =
    ap (λ (l : List ℕ). u ++ l) (drop_all (0 + length u) x (omega arith)) ∙ append-nil u

-- an empty entry's header at the region's start, for any later bytes
one_free_cell : (y more : List ℕ) (size : ℕ) (kept : Bool) → 64 ≤ size → size % 64 ≡ 0 → size < 2 ^ 32 → header_length + length more ≡ size → y ≡ empty_header size kept ++ more → IsOneFreeCell y
one_free_cell y more size kept some whole small room is =
    let made = empty_header-cell size kept more some whole small room in
    let len : length y ≡ size = ap length is ∙ omega (arith, length-append (empty_header size kept) more, length-empty_header size kept) in
    let is_cell : IsCell y = ap (λ (l : List ℕ). entry l) is ∙ made.0 ∙ ap (λ (n : ℕ). cell n) (sym len) in
    record {
      cells = cut_unique y (y ∷ []) [] complete (record {
        whole = sym (append-nil (y ++ []) ∙ append-nil y);
        each = All-cons IsCell y [] is_cell (All-nil IsCell);
        last = refl;
      });
      free = ap (λ (l : List ℕ). is_free (head_of l)) is ∙ made.1;
    }

pub formatted_free : (x : List ℕ) → 64 ≤ length x → length x % 64 ≡ 0 → length x < 2 ^ 32 → IsOneFreeCell (formatted x)
formatted_free x some whole small =
    one_free_cell (formatted x) (padding (length x - header_length) (Some (last_four x))) (length x) true some whole small
    (omega (arith, length-padding (length x - header_length) (Some (last_four x)) (length-last_four x (omega arith)), some)) refl

abbrev pub whole_range : ℕ → CellRange
whole_range size = record { start = 0; end = size }

pub format_done : (x y : List ℕ) (size : ℕ) → length x ≡ size → 64 ≤ size → y ≡ removed x (whole_range size) → y ≡ formatted x
format_done x y size long some is =
    let space : List ℕ = padding (length x - header_length) (Some (last_four x)) in
    let wide : length (formatted x) ≡ length x =
    omega (arith, length-append (empty_header (length x) true) space, length-empty_header (length x) true, length-padding (length x - header_length) (Some (last_four x)) (length-last_four x (omega arith))) in
    let all : length x - 0 ≡ length x = omega arith in
    is ∙ rw (← long, all, eq-eqb (length x) (length x) refl) (overwritten-whole x (formatted x) wide)

-- a size that a region can have
pub good_size : (size : ℕ) → false ≡ has_bad_size size → (64 ≤ size) × (size % 64 ≡ 0)
good_size size good =
    let whole = whole_size size good in
    let some : size ≢ 0 = grind (arith, common_steps) in
    (omega (arith, whole, some), whole)

-- a stop at a write
pub format_stopped : (x y : List ℕ) (size told : ℕ) → length x ≡ size → told ≡ size → 64 ≤ size → size % 64 ≡ 0 → size < 2 ^ 32 → IsOldOrEmptied (whole_range size) (space_end told size) x y → ((y ≡ x) ⊎ IsOneFreeCell y) × (last_four y ≡ last_four x)
format_stopped x y size told long is_told some whole small (inl same) = (inl same, ap (λ (l : List ℕ). last_four l) same)
format_stopped x y size told long is_told some whole small (inr emptied) =
    let group : CellRange = whole_range size in
    let range : IsCellRange group (length x) = record { some = some; start_aligned = refl; end_aligned = whole; inside = omega arith } in
    let to = space_end told size in
    let near = space_end-near told size in
    let is = emptied-bytes x group range y (emptied-wider x group range to y emptied size near.0) in
    let room : header_length + length is.0 ≡ size = omega (arith, is.1) in
    let header : List ℕ = empty_header (size - 0) (size == length x) in
    let wide : length (header ++ is.0) ≡ length x = omega (arith, length-append header is.0, length-empty_header (size - 0) (size == length x)) in
    let bytes : y ≡ empty_header size (size == length x) ++ is.0 =
    is.2 ∙ overwritten-whole x (header ++ is.0) wide ∙ ap (λ n. empty_header n (size == length x) ++ is.0) (let e : size - 0 ≡ size = omega arith in e) in
    let below : to ≤ size - 4 = omega (arith, space_end-below told size (omega arith) whole (omega (arith, whole))) in (
      inr (one_free_cell y is.0 size (size == length x) some whole small room bytes),
      ap (λ n. drop (n - 4) y) emptied.same_length ∙ further x y (0 + (to - 0)) (length x - 4) (omega (arith, below, long)) (emptied-outside x group range to y emptied (omega (arith, near.1, some))).after,
    )
