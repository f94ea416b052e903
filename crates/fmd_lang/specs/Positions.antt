-- Where a fault of a descriptor is, for messages: a line, a byte of it, the name of a section.
use Rattle.std.specs.Prelude.{◌≡◌, ◌⊎◌, ℕ, ◌+◌, ◌-◌, ◌<◌, ◌≤◌, nat_eq, not, Bool, true, false}
use Rattle.std.specs.Prelude.{List, [], ◌∷◌, ◌++◌, take, drop, slice_index}
use Rattle.std.specs.Prelude.{Option, Some, None, option_map}
use Rattle.std.specs.List.{count_by, prefix_len, slice_get}
use Rattle.fmd_lang.specs.Words.{Word, words, kind_of}
use Rattle.fmd_lang.specs.declared.word.Kind.{Kind}
use Rattle.fmd_lang.specs.declared.word.Kind.TheVariants.{Name, OpenParen, CloseParen}
use Rattle.fmd_lang.specs.declared.fault.FmdFault.{FmdFault}
use Rattle.fmd_lang.specs.declared.fault.FmdFault.TheVariants as faults
use Rattle.fmd_lang.specs.declared.position.Position.{Position}

-- a line ends before a line feed, or at the end of the text
abbrev pub is_feed : ℕ → Bool
is_feed b = nat_eq b 10

-- the line with this offset begins at the start: at the start of the text or behind a line feed,
-- and without a line feed between
pub record BeginsLine (text : List ℕ) (at start : ℕ) : Type 0 where
  pub before : start ≤ at
  pub begins : (start ≡ 0) ⊎ (is_feed (slice_index text (start - 1)) ≡ true)
  pub within : (k : ℕ) → start ≤ k → k < at → is_feed (slice_index text k) ≡ false

-- the bytes before the first line feed
abbrev pub first_line : List ℕ → List ℕ
first_line text = take (prefix_len (λ b. not (is_feed b)) text) text

-- The position of an offset. Lines and bytes are counted from 1.
pub record IsPosition (text : List ℕ) (at : ℕ) (p : Position) : Type 0 where
  pub start : ℕ
  pub begins : BeginsLine text at start
  pub column : start + p.column ≡ at + 1
  pub line : p.line ≡ 1 + count_by is_feed (take at text)
  pub source : p.source.now ≡ first_line (drop start text)

-- ---- the names of sections

-- whether tokens after one of this kind are inside parentheses
abbrev pub is_inside : Kind → Bool → Bool
is_inside OpenParen inside = true
is_inside CloseParen inside = false
is_inside kind inside = inside

-- a token that is the name of a section: names inside parentheses are annotations
abbrev pub section_word : Kind → Bool → Word → List Word
section_word Name false w = w ∷ []
section_word kind inside w = []

-- the names of the sections, in the order of the text
abbrev pub section_words : Bool → List Word → List Word
section_words inside [] = []
section_words inside (w ∷ ws) = let kind = kind_of w.bytes in
    section_word kind inside w ++ section_words (is_inside kind inside) ws

-- the offset of the name of the section with this number, if there is one
abbrev pub section_place : List ℕ → ℕ → Option ℕ
section_place text section =
    option_map (λ (w : Word). w.place) (slice_get (section_words false (words text)) section)

-- ---- faults

-- the offset that a fault concerns: of a token, or of the name of a section
abbrev pub fault_place : List ℕ → FmdFault → Option ℕ
fault_place text (faults.BadByte at) = Some at
fault_place text (faults.BadNumber at) = Some at
fault_place text (faults.NumberTooLarge at) = Some at
fault_place text (faults.Expected at what) = Some at
fault_place text (faults.NameTooLong at) = Some at
fault_place text (faults.Ambiguous section) = section_place text section
fault_place text (faults.EmptySection section) = section_place text section
fault_place text (faults.Overlap section) = section_place text section
fault_place text (faults.Outside section) = section_place text section
fault_place text (faults.Duplicate section) = section_place text section
fault_place text fault = None
