-- The counts of entries.
use Rattle.std.proofs.Common.{◌≡◌, ℕ, ◌+◌, Bool, true, false, cond, List, [], ◌∷◌, length, arith}
use Rattle.std.specs.List.{filter, fold, sum_by}
use Rattle.std.proofs.lemmas.List.Sums.{sum_by-cons}
use Rattle.flash_format.specs.Head.{head_of, is_free}
use Rattle.flash_format.specs.Cut.{cut}
use Rattle.flash_format.specs.Components.{component_at, components, components_from}
use Rattle.check_findings.specs.RegionFindings.{counts_after, entry_counts}
use Rattle.check_findings.specs.declared.region.entry_counts.EntryCounts.{EntryCounts}

-- the counts after further entries
abbrev more : EntryCounts → List (List ℕ) → EntryCounts
more n cells = fold (λ (n : EntryCounts) x. counts_after n (is_free (head_of x)) (length x)) n cells

free_cells : List (List ℕ) → List (List ℕ)
free_cells cells = filter (λ c. is_free (head_of c)) cells

abbrev Adds : EntryCounts → ℕ → List (List ℕ) → Type 0
Adds n at cells = ((more n cells).components ≡ n.components + length (components_from at cells))
    × ((more n cells).free ≡ n.free + sum_by length (free_cells cells))

-- an entry before the others, by whether it is free
one : (n : EntryCounts) (at : ℕ) (x : List ℕ) (cells : List (List ℕ)) → ((m : EntryCounts) → Adds m (at + length x) cells) → (b : Bool)
    → let others = components_from (at + length x) cells in let now = more (counts_after n b (length x)) cells in
    (now.components ≡ n.components + length (cond b others (component_at at x ∷ others)))
    × (now.free ≡ n.free + sum_by length (cond b (x ∷ free_cells cells) (free_cells cells)))
one n at x cells rest true =
    let all = rest (counts_after n true (length x)) in
    (all.0, rw (sum_by-cons (λ (c : List ℕ). length c) x (free_cells cells)) (omega (arith, all.1)))
one n at x cells rest false = let all = rest (counts_after n false (length x)) in (omega (arith, all.0), all.1)

counted : (n : EntryCounts) (at : ℕ) (cells : List (List ℕ)) → Adds n at cells
unfolding free_cells components_from
counted n at [] = (omega arith, omega arith)
counted n at (x ∷ cells) = one n at x cells (λ (m : EntryCounts). counted m (at + length x) cells) (is_free (head_of x))

pub counts : (x : List ℕ) → ((entry_counts (length x) (cut x).cells).components ≡ length (components x))
    × ((entry_counts (length x) (cut x).cells).free ≡ sum_by length (filter (λ c. is_free (head_of c)) (cut x).cells))
unfolding free_cells
counts x =
    let all = counted (record { size = length x; at = 0; components = 0; free = 0; start = 0; room = 0 }) 0 (cut x).cells in
    (omega (arith, all.0), omega (arith, all.1))
