-- Laws of the definitions.
use Rattle.std.specs.Prelude.{◌≡◌, ◌≢◌, ℕ, ◌+◌, ◌%◌, ◌^◌, ◌<◌, ◌≤◌, true, List, ◌++◌, length, take, drop, map, All, nat_le}
use Rattle.std.specs.List.{concat, list_all}
use Rattle.flash_format.specs.Head.{head_of, is_free}
use Rattle.flash_format.specs.Entry.{entry, cell}
use Rattle.flash_format.specs.Cut.{cut, after, IsCell, IsCut}
use Rattle.flash_format.specs.Components.{Component, components, components_from}
use Rattle.flash_format.specs.Splices.{AllFree, CellsBetween, splice}
use Rattle.flash_format.specs.Flashmap.{areas_from, fmap_head_len, fmap_head_of, is_map}
use Rattle.flash_format.specs.declared.flashmap.Area.{Area}
use Rattle.flash_format.specs.declared.flashmap.FmapHead.{FmapHead}
use Rattle.flash_format.specs.Texts.{hexadecimal, printed_name}

-- a cell of span bytes at the start of x
pub record EntriesAreReadAlike (x : List ℕ) (span : ℕ) : Type 0 where
  -- a multiple of 64, inside bytes of such a length
  pub positive : 64 ≤ span
  pub whole : span % 64 ≡ 0
  pub inside : length x % 64 ≡ 0 → span ≤ length x
  -- later bytes don't affect a cell
  pub alike : (y : List ℕ) → span ≤ length x → span ≤ length y → take span x ≡ take span y
      → entry y ≡ cell span
  -- a free cell depends only on 24 bytes
  pub free : (y : List ℕ) → is_free (head_of x) ≡ true → take 24 x ≡ take 24 y → span ≤ length y
      → entry y ≡ cell span

pub record CutsGoOn : Type 0 where
  -- the cut resumes after whole cells
  pub cells : (x : List ℕ) (at : ℕ) (cells : List (List ℕ)) → All IsCell cells
      → take at x ≡ concat cells → cut x ≡ after cells (cut (drop at x))
  -- the components of two lists of cells
  pub joined : (at : ℕ) (cells more : List (List ℕ)) → components_from at (cells ++ more)
      ≡ components_from at cells ++ components_from (at + length (concat cells)) more
  -- positions increase by n
  pub shifted : (n at : ℕ) (cells : List (List ℕ)) → components_from (n + at) cells
      ≡ map (λ (c : Component). record c { at = n + c.at }) (components_from at cells)

-- a group of neighbouring cells replaced by new cells
pub record GroupsAreReplaced (x : List ℕ) (start end : ℕ) (g : CellsBetween x start end)
    (new : List (List ℕ)) : Type 0 where
  -- unchanged outside the group
  pub cells : IsCut (splice x start end (concat new)) (g.before ++ new ++ g.after) g.rest g.ending
  -- components outside the group are unchanged
  pub listed : components (splice x start end (concat new))
      ≡ components_from 0 g.before ++ components_from start new ++ components_from end g.after
  -- free cells, such as empty entries, add no component
  pub emptied : AllFree new → components (splice x start end (concat new))
      ≡ components_from 0 g.before ++ components_from end g.after

-- no valid map begins below q
abbrev pub NoMapBelow : List ℕ → ℕ → Type 0
NoMapBelow image q = (k : ℕ) → k < q → is_map (drop k image) ≢ true

pub record IsReadAsMap (h : FmapHead) (areas : List Area) (x : List ℕ) : Type 0 where
  pub valid : is_map x ≡ true
  pub head : fmap_head_of x ≡ h
  pub all : areas_from h.nareas (drop fmap_head_len x) ≡ areas

-- Different names, and different numbers of 64 bits, have different texts, without a byte below the
-- blank, as texts between tabs have to be.
pub record PrintedTextsAreReadBack : Type 0 where
  pub names : (a b : List ℕ) → printed_name a ≡ printed_name b → a ≡ b
  pub name_fields : (name : List ℕ) → list_all (nat_le 32) (printed_name name) ≡ true
  pub numbers : (m n : ℕ) → m < 2 ^ 64 → n < 2 ^ 64 → hexadecimal m ≡ hexadecimal n → m ≡ n
  pub number_fields : (n : ℕ) → n < 2 ^ 64 → list_all (nat_le 32) (hexadecimal n) ≡ true
