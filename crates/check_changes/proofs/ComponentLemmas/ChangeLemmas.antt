-- The changes of a component, by both listings.
use Rattle.std.proofs.Common.{◌≡◌, ℕ, ◌+◌, ◌/◌, ◌<◌, ◌≤◌, List, ◌∷◌, [], length, take, get_or, arith, add-one}
use Rattle.std.specs.Prelude.{All}
use Rattle.std.proofs.lemmas.List.Elements.{All-get_or}
use Rattle.std.proofs.Math.Seq.{take-suc}
use Rattle.std.proofs.lemmas.List.Sums.{sum_by-append, sum_by-take-le}
use Rattle.flash_format.specs.Entry.{name_end}
use Rattle.cbfs_walk.proofs.Checks.{checks_give}
use Rattle.check_changes.specs.declared.components.listing.Listed.{Listed}
use Rattle.check_changes.specs.declared.images.Images.{Images}
use Rattle.check_changes.specs.Components.{IsListedIn, spans}
use Rattle.check_changes.proofs.ImageLemmas.{HasReadBoth}
use Rattle.check_changes.proofs.ImageLemmas.{both-then, both-within}

-- the name of a component ends before its content
pub name_first : (size : ℕ) (l : Listed) → IsListedIn size l → name_end l.cell.head ≤ l.cell.head.offset
name_first size l used = (checks_give _ l.cell.head l.cell.span used.0.checks).name_high used.1

-- ---- component by component

spans_more : (all : List Listed) (i : ℕ) (d : Listed) → i < length all → spans (take (i + 1) all) ≡ spans (take i all) + (get_or all i d).cell.span
spans_more all i d lt = rw (add-one, take-suc all i d lt) (omega (arith, sum_by-append (λ (l : Listed). l.cell.span) (take i all) (get_or all i d ∷ [])))

pub spans_part : (all : List Listed) (i : ℕ) → spans (take i all) / 24 ≤ spans all / 24
spans_part all i = omega (arith, sum_by-take-le (λ (l : Listed). l.cell.span) all i)

-- the reads after another component, and their limit
module _ {F G : Type 0} (size : ℕ) (all : List Listed) (lie : All (IsListedIn size) all) (i : ℕ) (d : Listed) (lt : i < length all) {a b : ℕ} {old mid new : Images F G} where
  pub reads_more : HasReadBoth (spans (take i all) / 24) (spans (take i all) / 24) 0 0 old mid
      → HasReadBoth (2 + (get_or all i d).cell.span / 4096) (2 + (get_or all i d).cell.span / 4096) a b mid new
      → HasReadBoth (spans (take (i + 1) all) / 24) (spans (take (i + 1) all) / 24) a b old new
  reads_more first second =
      let some : 64 ≤ (get_or all i d).cell.span = (All-get_or (IsListedIn size) all i d lt lie).0.positive in
      let few : spans (take i all) / 24 + (2 + (get_or all i d).cell.span / 4096) ≤ spans (take (i + 1) all) / 24 = omega (arith, some, spans_more all i d lt) in
      both-within _ _ few few (both-then first second)

  pub reads_all : HasReadBoth (spans (take i all) / 24) (spans (take i all) / 24) 0 0 old mid
      → HasReadBoth (2 + (get_or all i d).cell.span / 4096) (2 + (get_or all i d).cell.span / 4096) a b mid new
      → HasReadBoth (spans all / 24) (spans all / 24) a b old new
  reads_all first second =
      let few = spans_part all (i + 1) in
      both-within _ _ few few (reads_more first second)
