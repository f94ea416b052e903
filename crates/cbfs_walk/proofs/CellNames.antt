-- The name of a component in a region.
use Rattle.std.proofs.Common.{◌≡◌, ℕ, ◌+◌, ◌-◌, ◌<◌, ◌≤◌, min, true, false, List, ◌++◌, length, take, drop, sym, ap, ◌∙◌, arith, ◌⊎◌, inl, inr}
use Rattle.std.specs.Prelude.{slice_range}
use Rattle.std.specs.List.{list_any, before_first, position_or_len}
use Rattle.std.specs.Str.{bytes_eq}
use Rattle.std.proofs.lemmas.List.{take-append-le}
use Rattle.flash_format.specs.declared.head.Head.{Head}
use Rattle.flash_format.specs.Head.{head_of, is_free}
use Rattle.flash_format.specs.Entry.{name_end, name_field, is_nul}
use Rattle.flash_format.specs.Components.{cell_name}
use Rattle.cbfs_walk.specs.Cells.{PassesChecks, IsComponentIn, cell_in}
use Rattle.cbfs_walk.specs.Walks.{StandsIn}
use Rattle.cbfs_walk.specs.declared.cell.Cell.{Cell}
use Rattle.cbfs_walk.proofs.Parts.{range-drop, range-take, length-range}
use Rattle.cbfs_walk.proofs.Checks.{checks_give}
use Rattle.cbfs_walk.proofs.CutLaws.{standing, cell_head, cell_part, component_whole}
use Rattle.cbfs_walk.proofs.Texts.{text_len, text_most, text_within, text_prefix, text_is, text_is_not}

-- the name field after the checks of the head
pub record HasField (size : ℕ) (c : Cell) : Type 0 where
  pub low : 24 ≤ name_end c.head
  pub high : name_end c.head ≤ c.head.offset
  pub inside : c.at + name_end c.head ≤ size

pub field_used : (size : ℕ) (c : Cell) → PassesChecks size c → is_free c.head ≡ false → HasField size c
field_used size c checks used =
    let k = checks_give (size - c.at) c.head c.span checks in
    let high = k.name_high used in
    record { low = k.name_low used; high = high; inside = omega (arith, high, k.room, k.inside) }

pub has_field : (size : ℕ) (c : Cell) → IsComponentIn size c → HasField size c
has_field size c is = field_used size c is.checks is.used

abbrev pub field_of : List ℕ → Cell → List ℕ
field_of x c = slice_range x (c.at + 24) (c.at + name_end c.head)

pub record ShowsName (x : List ℕ) (c : Cell) : Type 0 where
  pub name : cell_name (cell_in x c) ≡ before_first is_nul (field_of x c)
  pub short : position_or_len is_nul (field_of x c) < 256
  pub within : position_or_len is_nul (field_of x c) < length (field_of x c)

pub shows_name : (x : List ℕ) (size : ℕ) (c : Cell) → IsComponentIn size c → StandsIn x c → ShowsName x c
shows_name x size c is stands =
    let s = standing x c stands in
    let k = checks_give (size - c.at) c.head c.span is.checks in
    let f = has_field size c is in
    let whole = component_whole (drop c.at x) c.span s.entry (ap is_free (sym s.head) ∙ is.used) in
    let there : name_field (head_of (drop c.at x)) (drop c.at x) ≡ field_of x c =
    ap (λ h. name_field h (drop c.at x)) (sym s.head) ∙ range-drop x c.at 24 (name_end c.head) in
    let nul : list_any is_nul (take 256 (field_of x c)) ≡ true = ap (λ l. list_any is_nul (take 256 l)) (sym there) ∙ whole.named in
    let parts = text_within 256 (field_of x c) nul in
    record {
      name =
          ap (λ (h : Head). before_first is_nul (name_field h (cell_in x c))) (cell_head x c s k.positive)
          ∙ ap (before_first is_nul) (cell_part x c 24 (name_end c.head) (omega (arith, f.high, k.fits)));
      short = parts.0;
      within = parts.1;
    }

-- the read bytes of the field
field_prefix : (x : List ℕ) (c : Cell) (n : ℕ) → 24 + n ≤ name_end c.head → take n (field_of x c) ≡ slice_range x (c.at + 24) (c.at + 24 + n)
field_prefix x c n room = range-take x (c.at + 24) (c.at + name_end c.head) n (omega (arith, room))

module _ (x : List ℕ) (size : ℕ) (c : Cell) (is : IsComponentIn size c) (len : length x ≡ size) where
  length-field : length (field_of x c) + 24 ≡ name_end c.head
  length-field =
      let f = has_field size c is in
      omega (arith, length-range x (c.at + 24) (c.at + name_end c.head) (omega (arith, f.inside, len)), f.low)

  -- the text in the read bytes
  pub read_name : (n end : ℕ) (out : List ℕ) → end ≡ name_end c.head → n ≡ min (end - 24) 255 → StandsIn x c → out ≡ slice_range x (c.at + 24) (c.at + 24 + n)
      → before_first is_nul out ≡ cell_name (cell_in x c)
  read_name n end out ends is_min stands read =
      let f = has_field size c is in
      let named = shows_name x size c is stands in
      ap (before_first is_nul) (read ∙ sym (field_prefix x c n (omega (arith, ends, is_min, f.low))))
      ∙ text_prefix n (field_of x c) (omega (arith, ends, is_min, named.short, named.within, length-field))
      ∙ sym named.name

  pub name_written : (k n end : ℕ) (out rest : List ℕ) → end ≡ name_end c.head → n ≡ min (end - 24) 255 → StandsIn x c
      → k ≡ length (before_first is_nul out) → out ≡ slice_range x (c.at + 24) (c.at + 24 + n) → take k (out ++ rest) ≡ cell_name (cell_in x c)
  name_written k n end out rest ends is_min stands told read =
      let count : k ≡ position_or_len is_nul out = told ∙ text_len out in
      let short : k ≤ length out = omega (arith, count, text_most out) in
      take-append-le k out rest short ∙ ap (λ j. take j out) count ∙ read_name n end out ends is_min stands read

  -- ---- comparison

  pub name_compared : (end : ℕ) (name out : List ℕ) → end ≡ name_end c.head → length name < end - 24 → StandsIn x c → out ≡ slice_range x (c.at + 24) (c.at + 24 + (length name + 1))
      → bytes_eq (before_first is_nul out) name ≡ bytes_eq (cell_name (cell_in x c)) name
  name_compared end name out ends shorter stands read =
      let named = shows_name x size c is stands in
      ap (λ l. bytes_eq (before_first is_nul l) name) (read ∙ sym (field_prefix x c (length name + 1) (omega (arith, ends, shorter))))
      ∙ text_is (field_of x c) name (length name + 1) (omega arith) named.within
      ∙ ap (λ t. bytes_eq t name) (sym named.name)

  pub name_too_long : (name : List ℕ) → (255 < length name) ⊎ (name_end c.head ≤ length name + 24) → StandsIn x c → false ≡ bytes_eq (cell_name (cell_in x c)) name
  name_too_long name long stands =
      let named = shows_name x size c is stands in
      let field = length-field in
      text_is_not (field_of x c) name (longer long named.short (omega (arith, named.within, field))) ∙ ap (λ t. bytes_eq t name) (sym named.name)
    where
      longer : {n m k : ℕ} → (255 < m) ⊎ (k ≤ m + 24) → n < 256 → n + 24 < k → n < m
      longer (inl lt) short within = omega arith
      longer (inr le) short within = omega arith
