-- The tree of a descriptor, and its grammar:
--   section = name [ "(" annotation+ ")" ] [ "@" number ] [ number ] [ "{" section* "}" ]
-- Source: coreboot's Documentation/lib/flashmap.md. Empty braces, and the same grammar for the
-- root, are this project's own.
use Rattle.std.specs.Prelude.{◌≡◌, ℕ, ◌<◌, ◌⊎◌, List, [], ◌∷◌, ◌++◌, length, Option, Some}
use Rattle.std.specs.Prelude.{MatchOption, codes, map}
use Rattle.std.specs.Int.Bits.{bit_or}
use Rattle.std.specs.Map.{lookup}
use Rattle.std.specs.Option.{option_and_then}
use Rattle.std.specs.Str.{bytes_eq}
use Rattle.fmd_lang.specs.Words.{Word, kind_of, literal_value}
use Rattle.fmd_lang.specs.declared.section.Section.{Section}
use Rattle.fmd_lang.specs.declared.section.Section.TheFolds.{fold-Section}
use Rattle.fmd_lang.specs.declared.word.Kind.{Kind}
use Rattle.fmd_lang.specs.declared.word.Kind.TheVariants.{Name, Number, OpenParen, CloseParen, At}
use Rattle.fmd_lang.specs.declared.word.Kind.TheVariants.{OpenBrace, CloseBrace}

mutual
  -- name, flags, offset, size and parts
  pub data Tree : Type 0 where
    section : List ℕ → ℕ → Option ℕ → Option ℕ → Forest → Tree

  pub data Forest : Type 0 where
    none : Forest
    some : Tree → Forest → Forest

abbrev pub size_of : Tree → Option ℕ
size_of (section name flags offset size parts) = size

abbrev pub forest_of : List Tree → Forest
forest_of [] = none
forest_of (t ∷ ts) = some t (forest_of ts)

abbrev mutual
  -- the names in preorder: section number i has the i-th name
  pub names : Tree → List (List ℕ)
  names (section name flags offset size parts) = name ∷ names_of parts

  pub names_of : Forest → List (List ℕ)
  names_of none = []
  names_of (some t ts) = names t ++ names_of ts

-- ---- the grammar

-- a single token
abbrev pub One : (Word → Type 0) → List Word → Type 0
One P ws = (w : Word) × (ws ≡ w ∷ []) × P w

-- a sequence of two forms
abbrev pub Then : (List Word → Type 0) → (List Word → Type 0) → List Word → Type 0
Then P Q ws = (front back : List Word) × (ws ≡ front ++ back) × P front × Q back

abbrev pub IsA : Kind → Word → Type 0
IsA k w = kind_of w.bytes ≡ k

-- a sequence between delimiters; or no token, if Q holds
abbrev pub Enclosed : Kind → Kind → (List Word → Type 0) → Type 0 → List Word → Type 0
Enclosed first last P Q ws = ((ws ≡ []) × Q) ⊎ Then (One (IsA first)) (Then P (One (IsA last))) ws

-- the annotations, and the area flags of each
abbrev pub annotations : List (List ℕ × ℕ)
annotations = (codes "CBFS", 0) ∷ (codes "PRESERVE", 8) ∷ []

abbrev pub annotation_flag : List ℕ → Option ℕ
annotation_flag bytes = lookup (bytes_eq bytes) annotations

-- the flags of all annotations, added to `flags`
abbrev pub flags_with : ℕ → List Word → Option ℕ
flags_with flags [] = Some flags
flags_with flags (w ∷ ws) =
    option_and_then (λ flag. flags_with (bit_or flags flag) ws) (annotation_flag w.bytes)

-- a nonempty list of annotations in parentheses, or no token
abbrev pub AreAnnotations : ℕ → List Word → Type 0
AreAnnotations flags = Enclosed OpenParen CloseParen
    (λ ws. (0 < length ws) × (flags_with 0 ws ≡ Some flags)) (flags ≡ 0)

-- a number with the value `n`
abbrev pub HasValue : ℕ → Word → Type 0
HasValue n w = IsA Number w × (literal_value w.bytes ≡ Some n)

-- `@` and a number; or no token
abbrev pub IsOffset : Option ℕ → List Word → Type 0
IsOffset offset ws = MatchOption offset (ws ≡ []) (λ n. Then (One (IsA At)) (One (HasValue n)) ws)

-- a number; or no token
abbrev pub IsSize : Option ℕ → List Word → Type 0
IsSize size ws = MatchOption size (ws ≡ []) (λ n. One (HasValue n) ws)

abbrev pub IsName : List ℕ → Word → Type 0
IsName name w = IsA Name w × (w.bytes ≡ name) × (length name < 32)

abbrev mutual
  pub IsSection : Tree → List Word → Type 0
  IsSection (section name flags offset size parts) ws =
      Then (One (IsName name)) (Then (AreAnnotations flags) (Then (IsOffset offset)
      (Then (IsSize size) (Enclosed OpenBrace CloseBrace (AreSections parts) (parts ≡ none))))) ws

  pub AreSections : Forest → List Word → Type 0
  AreSections none ws = ws ≡ []
  AreSections (some t ts) ws = Then (IsSection t) (AreSections ts) ws

-- ---- the tree of a section in memory

abbrev pub view : Section → Tree
view =
    fold-Section Tree (λ s. section s.name.items s.flags s.offset s.size (forest_of s.parts.items))

abbrev pub views : List Section → Forest
views ss = forest_of (map view ss)
