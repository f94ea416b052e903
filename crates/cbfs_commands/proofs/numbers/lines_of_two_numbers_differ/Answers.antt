use Rattle.std.proofs.Common.{◌≡◌, ◌<◌, ◌^◌, ℕ, All, List, [], ◌∷◌, ◌++◌, Option, Some, ap, arith, refl}
use lib.Chars.{codes}
use Rattle.std.specs.Prelude.{slice_index}
use Rattle.std.proofs.lemmas.List.Elements.{All-cons, All-nil}
use Rattle.flash_format.specs.Entry.{scan_after}
use Rattle.flash_format.specs.Head.{head_of}
use Rattle.cbfs_anchor.specs.Samples.{named_cell, small_found}
use Rattle.cbfs_commands.specs.Laws.{row_values}
use Rattle.cbfs_commands.specs.Samples.{area_of_size}
use Rattle.cbfs_commands.proofs.numbers.lines_of_two_numbers_differ.Goals as goal

abbrev IsSmall : ℕ → Type 0
IsSmall n = n < 2 ^ 64

three : (a b c : ℕ) → IsSmall a → IsSmall b → IsSmall c → All IsSmall (a ∷ b ∷ c ∷ [])
three a b c x y z = All-cons IsSmall a (b ∷ c ∷ []) x (All-cons IsSmall b (c ∷ []) y (All-cons IsSmall c [] z (All-nil IsSmall)))

cell_values : (at : ℕ) → row_values (at, named_cell 97) ≡ (Some (codes "a"), at ∷ 0x50 ∷ 4 ∷ 0 ∷ [])
unfolding head_of scan_after named_cell
cell_values at = refl

four : (at : ℕ) → IsSmall at → All IsSmall (row_values (at, named_cell 97)).1
four at x = rw (cell_values at) (All-cons IsSmall at (0x50 ∷ 4 ∷ 0 ∷ []) x (three 0x50 4 0 (omega arith) (omega arith) (omega arith)))

pub returns-clause-areas : goal.returns-clause-areas
returns-clause-areas c = λ same.
    let is = (c.lines_are_read_back.ensures.areas.one (area_of_size 16) (area_of_size 17) [] [] (three 0 16 0 (omega arith) (omega arith) (omega arith)) (three 0 17 0 (omega arith) (omega arith) (omega arith)) (ap (λ (l : List ℕ). l ++ []) same)).0 in
    omega (arith, ap (λ (v : List ℕ × List ℕ). slice_index v.1 1) is)

pub returns-clause-cells : goal.returns-clause-cells
returns-clause-cells c = λ same.
    let is = (c.lines_are_read_back.ensures.cells.one (0, named_cell 97) (64, named_cell 97) [] [] (four 0 (omega arith)) (four 64 (omega arith)) (ap (λ (l : List ℕ). l ++ []) same)).0 in
    let both = rw (cell_values 0, cell_values 64) at is in
    omega (arith, ap (λ (v : Option (List ℕ) × List ℕ). slice_index v.1 0) both)

pub returns-clause-maps : goal.returns-clause-maps
returns-clause-maps c = λ same.
    let is = (c.lines_are_read_back.ensures.maps.one small_found (record small_found { at = 1 }) [] [] (three 0 320 3 (omega arith) (omega arith) (omega arith)) (three 1 320 3 (omega arith) (omega arith) (omega arith)) (ap (λ (l : List ℕ). l ++ []) same)).0 in
    omega (arith, ap (λ (v : List ℕ × List ℕ). slice_index v.1 0) is)
