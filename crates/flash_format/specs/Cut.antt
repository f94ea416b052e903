-- The division of a region into neighbouring cells. CBFS entries begin at multiples of 64. This
-- project's rule: the rest is an unused, preserved tail.
use Rattle.std.specs.Prelude.{◌≡◌, ℕ, zero, suc, pred, ◌<◌, List, [], ◌∷◌, ◌++◌, length, take, All}
use Rattle.std.specs.List.{concat}
use Rattle.flash_format.specs.declared.head.DamageKind.{DamageKind}
use Rattle.flash_format.specs.Entry.{Entry, absent, damaged, cell, entry}

pub data End : Type 0 where
  -- at the region's end
  complete : End
  -- at bytes without an entry
  tail : End
  -- at a failed check
  damage : DamageKind → End

pub record Cut : Type 0 where
  pub cells : List (List ℕ)
  pub end : End

abbrev pub ends : End → Cut
ends e = record { cells = []; end = e }

abbrev pub after : List (List ℕ) → Cut → Cut
after cells rest = record { cells = cells ++ rest.cells; end = rest.end }

-- the cut from an entry on, with `later` after a cell
abbrev pub by_entry : Entry → List ℕ → (ℕ → Cut) → Cut
by_entry absent x later = ends tail
by_entry (damaged kind) x later = ends (damage kind)
by_entry (cell span) x later = after (take span x ∷ []) (later span)

-- The cut of the bytes after the first `skip` bytes, which belong to the previous cell. The next
-- byte `b` is the start of an entry. If it is that of a cell, `pred span` bytes of the cell follow
-- `b`.
unfoldable pub cut_after : ℕ → List ℕ → Cut
cut_after skip [] = ends complete
cut_after (suc skip) (b ∷ bs) = cut_after skip bs
cut_after zero (b ∷ bs) = by_entry (entry (b ∷ bs)) (b ∷ bs) (λ span. cut_after (pred span) bs)

abbrev pub cut : List ℕ → Cut
cut x = cut_after 0 x

-- ---- as a relation

-- exactly one cell
abbrev pub IsCell : List ℕ → Type 0
IsCell x = entry x ≡ cell (length x)

abbrev pub EndsAt : List ℕ → End → Type 0
EndsAt rest complete = rest ≡ []
EndsAt rest tail = (0 < length rest) × (entry rest ≡ absent)
EndsAt rest (damage kind) = (0 < length rest) × (entry rest ≡ damaged kind)

pub record IsCut (x : List ℕ) (cells : List (List ℕ)) (rest : List ℕ) (e : End) : Type 0 where
  pub whole : x ≡ concat cells ++ rest
  pub each : All IsCell cells
  pub last : EndsAt rest e
