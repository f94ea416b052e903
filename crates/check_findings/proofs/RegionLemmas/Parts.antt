-- The parts of the findings of a region with a good shape.
use Rattle.std.specs.Option.{option_map_or}
use Rattle.check_findings.specs.Lists.{only_if}
use Rattle.std.proofs.Common.{◌≡◌, ℕ, ◌+◌, ◌-◌, ◌/◌, ◌==◌, Bool, true, false, cond, List, [], ◌∷◌, length, Option, Some, None, All, refl}
use Rattle.std.specs.Prelude.{map}
use Rattle.std.proofs.lemmas.List.Elements.{All-nil, All-cons, All-append}
use Rattle.flash_format.specs.Cut.{End, complete, tail, damage}
use Rattle.flash_format.specs.Head.{head_of, is_free}
use Rattle.flash_format.specs.Components.{component_at}
use Rattle.check_findings.specs.RegionFindings.{cell_findings, cells_findings, end_findings, first_filled, tail_findings}
use Rattle.check_findings.proofs.RegionLemmas.PartNames.{entries_findings}
use Rattle.check_findings.proofs.RegionLemmas.PartNames.{component_finding}
use Rattle.check_findings.specs.declared.region.finding.RegionFinding.{RegionFinding}
use Rattle.check_findings.specs.declared.region.finding.RegionFinding.TheVariants.{Component, Deleted, Complete, Tail, TailFilled, TailEntry, Damaged, Components, FreeBytes, LargestContent}

pub data Part : Type 0 where
  cell_part : Part
  end_part : Part
  count_part : Part

abbrev pub part_of : RegionFinding → Part
part_of (Component at name shadowed content) = cell_part
part_of (Deleted at) = cell_part
part_of (Components n) = count_part
part_of (FreeBytes n) = count_part
part_of (LargestContent n) = count_part
part_of _ = end_part

abbrev pub IsIn : Part → RegionFinding → Type 0
IsIn part finding = part_of finding ≡ part

-- a finding or none
if_so : (part : Part) (f : RegionFinding) → IsIn part f → (b : Bool) → All (IsIn part) (cond b (f ∷ []) [])
if_so part f is true = All-cons (IsIn part) f [] is (All-nil (IsIn part))
if_so part f is false = All-nil (IsIn part)

of_cell : (at : ℕ) (x : List ℕ) (free : Bool) → All (IsIn cell_part) (cond free (only_if ((head_of x).kind == 0) (Deleted at)) (component_finding false (component_at at x) ∷ []))
of_cell at x true = if_so cell_part (Deleted at) refl ((head_of x).kind == 0)
of_cell at x false = All-cons (IsIn cell_part) _ [] refl (All-nil (IsIn cell_part))

pub of_cells : (at : ℕ) (all : List (List ℕ)) → All (IsIn cell_part) (cells_findings at all)
unfolding cells_findings
of_cells at [] = All-nil (IsIn cell_part)
of_cells at (x ∷ all) = All-append (IsIn cell_part) (cell_findings at x) _ (of_cell at x (is_free (head_of x))) (of_cells (at + length x) all)

of_entries : (x : List ℕ) (places : List ℕ) → All (IsIn end_part) (map TailEntry places)
of_entries x [] = All-nil (IsIn end_part)
of_entries x (at ∷ places) = All-cons (IsIn end_part) (TailEntry at) _ refl (of_entries x places)

of_tail : (at : ℕ) (x : List ℕ) → All (IsIn end_part) (tail_findings at x)
unfolding tail_findings
of_tail at x = All-cons (IsIn end_part) (Tail at) _ refl (go (first_filled at x))
  where
    go : (o : Option ℕ) → All (IsIn end_part) (option_map_or (λ place. TailFilled place ∷ entries_findings ((length x - at) / 64) at x) o [])
    go None = All-nil (IsIn end_part)
    go (Some place) = All-cons (IsIn end_part) (TailFilled place) _ refl (of_entries x _)

pub of_end : (x : List ℕ) (at : ℕ) (e : End) → All (IsIn end_part) (end_findings x at e)
of_end x at complete = All-cons (IsIn end_part) Complete [] refl (All-nil (IsIn end_part))
of_end x at tail = of_tail at x
of_end x at (damage kind) = All-cons (IsIn end_part) (Damaged at kind) [] refl (All-nil (IsIn end_part))
