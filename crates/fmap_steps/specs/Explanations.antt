-- The explanation of a refused descriptor.
use Rattle.std.specs.Prelude.{◌≡◌, ℕ, ◌+◌, ◌≤◌, nat_le, ◌&&◌, if◌then◌else◌, List, length, map}
use Rattle.std.specs.Prelude.{take, drop, min, Option, None, MatchOption, IsSomeAnd}
use Rattle.fmd_lang.specs.Positions.{IsPosition}
use Rattle.fmd_lang.specs.declared.position.Position.{Position}
use Rattle.fmap_steps.specs.declared.excerpt.Excerpt.{Excerpt}
use Rattle.fmap_steps.specs.declared.explanation.Spot.{Spot}

-- a byte on a terminal: a blank unless it is printable ASCII
abbrev pub visible : ℕ → ℕ
visible b = if nat_le 0x20 b && nat_le b 0x7e then b else 0x20

-- at most 100 bytes of a line, at most 60 of them before the marked byte
pub record IsExcerpt (p : Position) (e : Excerpt) : Type 0 where
  pub start : ℕ  -- the index of the first shown byte
  pub bytes : e.bytes.items ≡ map visible (take 100 (drop start p.source.now))
  pub mark : start + e.mark + 1 ≡ p.column
  pub near : e.mark ≤ 60

-- the line, the byte and the excerpt of an offset
pub record IsSpot (text : List ℕ) (at : ℕ) (spot : Spot) : Type 0 where
  pub position : Position
  pub is : IsPosition text at position
  pub line : spot.line ≡ position.line
  pub column : spot.column ≡ position.column
  pub excerpt : IsExcerpt position spot.excerpt

-- the spot of an offset of the text, or no spot without an offset
abbrev pub IsAt : List ℕ → Option ℕ → Option Spot → Type 0
IsAt text place spot = MatchOption place (spot ≡ None)
    (λ at. IsSomeAnd spot (IsSpot text (min at (length text))))
