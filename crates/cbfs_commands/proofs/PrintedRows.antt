-- Printed rows determine their cells.
use Rattle.std.proofs.lemmas.Grind.{common_steps}
use Rattle.std.proofs.Common.{◌≡◌, ◌≢◌, ℕ, ◌^◌, ◌<◌, length, Bool, true, false, if◌then◌else◌, List, [], ◌∷◌, ◌++◌, Option, Some, None, unwrap_or, refl, sym, ap, ◌∙◌, arith}
use Rattle.std.specs.List.{flat_map}
use Rattle.std.specs.Prelude.{⊤, All, map, ◌==◌, ◌||◌}
use Rattle.std.proofs.lemmas.List.Elements.{All-head, All-tail}
use Rattle.std.specs.Fmt.{decimal}
use Rattle.std.proofs.lemmas.List.{append_assoc}
use lib.Chars.{codes}
use Rattle.flash_format.specs.Head.{head_of, is_free}
use Rattle.flash_format.specs.Components.{cell_attributes, cell_name, compression_of}
use Rattle.flash_format.specs.Flashmap.{text_of}
use Rattle.flash_format.specs.Texts.{hexadecimal, printed_compression, printed_name, printed_type}
use Rattle.flash_format.specs.TypeNames.{name_of_compression, name_of_type, number_for, type_of_text}
use Rattle.flash_format.specs.declared.flashmap.Area.{Area}
use Rattle.flash_map.specs.declared.search.FoundMap.{FoundMap}
use Rattle.flash_format.proofs.PrintedLaws.{decimal_field, hexadecimal_field, name_field, same_decimals, same_hexadecimals, same_names, split}
use Rattle.flash_format.proofs.TypeLaws.{compression_back, compression_table, compression_is_word, is_field, is_word, read_back, type_is_word, word_is_field}
use Rattle.cbfs_commands.specs.Laws.{CanBeReadBack, HasNumbersOf64Bits, LinesAreReadBack}
use Rattle.cbfs_commands.specs.Rows.{area_line, map_line, row_text}

-- ---- names or numbers

word_is_no_number : (s : List ℕ) (n : ℕ) → is_word s ≡ true → s ≢ hexadecimal n
unfolding hexadecimal
word_is_no_number s n word e = grind (arith, common_steps)

-- the names are words, and decode
module _ (name_of : ℕ → Option (List ℕ)) (word : (n : ℕ) (name : List ℕ) → name_of n ≡ Some name → is_word name ≡ true) where
  same_texts : (number_of : List ℕ → Option ℕ) → ((n : ℕ) (name : List ℕ) → name_of n ≡ Some name → number_of name ≡ Some n)
      → (a b : ℕ) → a < 2 ^ 64 → b < 2 ^ 64 → unwrap_or (name_of a) (hexadecimal a) ≡ unwrap_or (name_of b) (hexadecimal b) → a ≡ b
  same_texts number_of back a b small_a small_b e = go (name_of a) (name_of b) refl refl e
    where
      go : (p q : Option (List ℕ)) → name_of a ≡ p → name_of b ≡ q → unwrap_or p (hexadecimal a) ≡ unwrap_or q (hexadecimal b) → a ≡ b
      go (Some s) (Some t) is_a is_b e =
          let x : number_of s ≡ Some a = back a s is_a in
          let y : number_of t ≡ Some b = back b t is_b in
          let same : s ≡ t = e in
          let whole : Some a ≡ Some b = sym x ∙ ap number_of same ∙ y in
          cc
      go (Some s) None is_a is_b e = absurd (word_is_no_number s b (word a s is_a) e)
      go None (Some t) is_a is_b e = absurd (word_is_no_number t a (word b t is_b) (sym e))
      go None None is_a is_b e = same_hexadecimals a b small_a small_b e

  text_field : (n : ℕ) → n < 2 ^ 64 → is_field (unwrap_or (name_of n) (hexadecimal n)) ≡ true
  text_field n small = grind (arith, common_steps, hexadecimal_field, word_is_field)

-- ---- fields of a line

abbrev Field : List ℕ → Type 0
Field text = is_field text ≡ true

abbrev Fields : List (List ℕ) → Type 0
Fields [] = ⊤
Fields (a ∷ others) = Field a × Fields others

-- the fields with tabs between them and a line feed, then more
abbrev line : List (List ℕ) → List ℕ → List ℕ
line [] more = more
line (a ∷ []) more = a ++ 10 ∷ more
line (a ∷ (b ∷ others)) more = a ++ 9 ∷ line (b ∷ others) more

split_line : (f g : List (List ℕ)) (more rest : List ℕ) → Fields f → Fields g → length f ≡ length g → line f more ≡ line g rest → (f ≡ g) × (more ≡ rest)
split_line [] [] more rest ff fg len e = (refl, e)
split_line (a ∷ []) (p ∷ []) more rest ff fg len e = let s = split 10 a p more rest (omega arith) ff.0 fg.0 e in (cc, s.1)
split_line (a ∷ (b ∷ f)) (p ∷ (q ∷ g)) more rest ff fg len e =
    let s = split 9 a p (line (b ∷ f) more) (line (q ∷ g) rest) (omega arith) ff.0 fg.0 e in
    let others = split_line (b ∷ f) (q ∷ g) more rest ff.1 fg.1 (omega (arith, len)) s.1 in
    (cc, others.1)
split_line _ _ more rest ff fg len e = absurd (omega (arith, len))

begun : (a s : List ℕ) → [] ≢ a ++ 9 ∷ s
begun [] s e = absurd cc
begun (b ∷ a) s e = absurd cc

-- lines that aren't empty, one by one
module _ {A N : Type 0} (each_line : A → List ℕ) (values : A → N × List ℕ) (some : (a : A) (more : List ℕ) → [] ≢ each_line a ++ more)
    (one : (a b : A) (more rest : List ℕ) → HasNumbersOf64Bits each_line values a → HasNumbersOf64Bits each_line values b → each_line a ++ more ≡ each_line b ++ rest → (values a ≡ values b) × (more ≡ rest)) where
  many : (each others : List A) → All (HasNumbersOf64Bits each_line values) each → All (HasNumbersOf64Bits each_line values) others → flat_map each_line each ≡ flat_map each_line others → map values each ≡ map values others
  many [] [] fits fits2 e = refl
  many [] (b ∷ others) fits fits2 e = absurd (some b (flat_map each_line others) e)
  many (a ∷ each) [] fits fits2 e = absurd (some a (flat_map each_line each) (sym e))
  many (a ∷ each) (b ∷ others) fits fits2 e =
      let Fits : A → Type 0 = HasNumbersOf64Bits each_line values in
      let first = one a b (flat_map each_line each) (flat_map each_line others) (All-head Fits a each fits) (All-head Fits b others fits2) e in
      let later = many each others (All-tail Fits a each fits) (All-tail Fits b others fits2) first.1 in
      cc

  are_read_back : CanBeReadBack each_line values
  are_read_back = record { one = one; all = many }

-- ---- rows of cells

abbrev label : Bool → List ℕ → List ℕ
label free x = if free then codes "(empty)" else printed_name (cell_name x)

abbrev compression_if : Bool → List ℕ → ℕ
compression_if free x = if free then 0 else compression_of (cell_attributes x)

abbrev row_if : Bool → ℕ → List ℕ → List ℕ
row_if free at x = if free then row_text at (head_of x) None 0 else row_text at (head_of x) (Some (cell_name x)) (compression_of (cell_attributes x))

abbrev values_if : Bool → ℕ → List ℕ → Option (List ℕ) × List ℕ
values_if free at x = let h = head_of x in
    if free then (None, at ∷ h.kind ∷ h.len ∷ []) else (Some (cell_name x), at ∷ h.kind ∷ h.len ∷ compression_of (cell_attributes x) ∷ [])

abbrev Small : Bool → ℕ → List ℕ → Type 0
Small free at x = All (λ n. n < 2 ^ 64) (values_if free at x).1

abbrev cell_fields : Bool → ℕ → List ℕ → List (List ℕ)
cell_fields free at x = label free x ∷ hexadecimal at ∷ printed_type (head_of x).kind ∷ decimal (head_of x).len ∷ printed_compression (compression_if free x) ∷ []

row_shape : (free : Bool) (at : ℕ) (x more : List ℕ) → (row_if free at x ++ []) ++ more ≡ line (cell_fields free at x) more
unfolding row_text
row_shape true at x more = simp append_assoc
row_shape false at x more = simp append_assoc

-- the numbers that every cell has, and a component's compression
numbers : (free : Bool) (at : ℕ) (x : List ℕ) → Small free at x → (at < 2 ^ 64) × ((head_of x).kind < 2 ^ 64) × ((head_of x).len < 2 ^ 64) × (compression_if free x < 2 ^ 64)
numbers true at x f = (f 0 0 (omega arith), f 1 0 (omega arith), f 2 0 (omega arith), omega arith)
numbers false at x f = (f 0 0 (omega arith), f 1 0 (omega arith), f 2 0 (omega arith), f 3 0 (omega arith))

are_fields : (free : Bool) (at : ℕ) (x : List ℕ) → Small free at x → Fields (cell_fields free at x)
are_fields free at x f = let n = numbers free at x f in grind (arith, common_steps, compression_is_word, decimal_field, hexadecimal_field, name_field, text_field, type_is_word)

rows_read_back : (free other_free : Bool) (at other : ℕ) (x y more rest : List ℕ) → free ≡ is_free (head_of x) → other_free ≡ is_free (head_of y) → Small free at x → Small other_free other y
    → (row_if free at x ++ []) ++ more ≡ (row_if other_free other y ++ []) ++ rest → (values_if free at x ≡ values_if other_free other y) × (more ≡ rest)
rows_read_back p q at other x y more rest is_p is_q fx fy e =
    let m = numbers p at x fx in
    let n = numbers q other y fy in
    let s = split_line (cell_fields p at x) (cell_fields q other y) more rest (are_fields p at x fx) (are_fields q other y fy) refl (sym (row_shape p at x more) ∙ e ∙ row_shape q other y rest) in
    let kind = same_texts name_of_type type_is_word type_of_text read_back _ _ m.1 n.1 (cc) in
    let place = same_hexadecimals at other m.0 n.0 (cc) in
    let len = same_decimals _ _ m.2 n.2 (cc) in
    let compression = same_texts name_of_compression compression_is_word (number_for compression_table) compression_back _ _ m.3 n.3 (cc) in
    let free : p ≡ q = is_p ∙ ap (λ k. k == 0 || k == 0xffffffff) kind ∙ sym is_q in
    (values_as p q free place kind len compression (cc), s.1)
  where
    values_as : (p q : Bool) → p ≡ q → at ≡ other → (head_of x).kind ≡ (head_of y).kind → (head_of x).len ≡ (head_of y).len → compression_if p x ≡ compression_if q y → label p x ≡ label q y → values_if p at x ≡ values_if q other y
    values_as true true same place kind len compression names = cc
    values_as false false same place kind len compression names = let name = same_names _ _ names in cc
    values_as _ _ same place kind len compression names = absurd cc

-- ---- lines of the layout

abbrev area_fields : Area → List (List ℕ)
area_fields a = printed_name (text_of a.name) ∷ hexadecimal a.offset ∷ decimal a.size ∷ hexadecimal a.flags ∷ []

area_shape : (a : Area) (more : List ℕ) → area_line a ++ more ≡ line (area_fields a) more
unfolding area_line
area_shape a more = simp append_assoc

areas_read_back : (a b : Area) (more rest : List ℕ) → (let small = λ (area : Area). All (λ n. n < 2 ^ 64) (area.offset ∷ area.size ∷ area.flags ∷ []) in small a → small b → area_line a ++ more ≡ area_line b ++ rest
    → ((let v : List ℕ × List ℕ = (text_of a.name, a.offset ∷ a.size ∷ a.flags ∷ []) in v) ≡ (text_of b.name, b.offset ∷ b.size ∷ b.flags ∷ [])) × (more ≡ rest))
areas_read_back a b more rest fa fb e =
    let s = split_line (area_fields a) (area_fields b) more rest (are_fields_of a fa) (are_fields_of b fb) refl (sym (area_shape a more) ∙ e ∙ area_shape b rest) in
    let name = same_names (text_of a.name) (text_of b.name) (cc) in
    let offset = same_hexadecimals _ _ (fa 0 0 (omega arith)) (fb 0 0 (omega arith)) (cc) in
    let size = same_decimals _ _ (fa 1 0 (omega arith)) (fb 1 0 (omega arith)) (cc) in
    let flags = same_hexadecimals _ _ (fa 2 0 (omega arith)) (fb 2 0 (omega arith)) (cc) in
    (cc, s.1)
  where
    are_fields_of : (a : Area) → All (λ n. n < 2 ^ 64) (a.offset ∷ a.size ∷ a.flags ∷ []) → Fields (area_fields a)
    are_fields_of a f = (name_field _, (hexadecimal_field _ (f 0 0 (omega arith)), (decimal_field _ (f 1 0 (omega arith)), (hexadecimal_field _ (f 2 0 (omega arith)), tt))))

abbrev map_fields : FoundMap → List (List ℕ)
map_fields m = codes "fmap" ∷ hexadecimal m.at ∷ printed_name (text_of m.head.name) ∷ decimal m.head.size ∷ decimal m.head.nareas ∷ []

map_shape : (m : FoundMap) (more : List ℕ) → map_line m ++ more ≡ line (map_fields m) more
unfolding map_line
map_shape m more = simp append_assoc

maps_read_back : (a b : FoundMap) (more rest : List ℕ) → (let small = λ (m : FoundMap). All (λ n. n < 2 ^ 64) (m.at ∷ m.head.size ∷ m.head.nareas ∷ []) in small a → small b → map_line a ++ more ≡ map_line b ++ rest
    → ((let v : List ℕ × List ℕ = (text_of a.head.name, a.at ∷ a.head.size ∷ a.head.nareas ∷ []) in v) ≡ (text_of b.head.name, b.at ∷ b.head.size ∷ b.head.nareas ∷ [])) × (more ≡ rest))
maps_read_back a b more rest fa fb e =
    let s = split_line (map_fields a) (map_fields b) more rest (are_fields_of a fa) (are_fields_of b fb) refl (sym (map_shape a more) ∙ e ∙ map_shape b rest) in
    let place = same_hexadecimals a.at b.at (fa 0 0 (omega arith)) (fb 0 0 (omega arith)) (cc) in
    let name = same_names (text_of a.head.name) (text_of b.head.name) (cc) in
    let size = same_decimals _ _ (fa 1 0 (omega arith)) (fb 1 0 (omega arith)) (cc) in
    let nareas = same_decimals _ _ (fa 2 0 (omega arith)) (fb 2 0 (omega arith)) (cc) in
    (cc, s.1)
  where
    are_fields_of : (m : FoundMap) → All (λ n. n < 2 ^ 64) (m.at ∷ m.head.size ∷ m.head.nareas ∷ []) → Fields (map_fields m)
    are_fields_of m f = (refl, (hexadecimal_field m.at (f 0 0 (omega arith)), (name_field _, (decimal_field _ (f 1 0 (omega arith)), (decimal_field _ (f 2 0 (omega arith)), tt)))))

pub lines_read_back : LinesAreReadBack
lines_read_back = record { cells = are_read_back _ _ (λ c more e. begun _ _ (e ∙ row_shape (is_free (head_of c.1)) c.0 c.1 more)) (λ a b more rest. rows_read_back (is_free (head_of a.1)) (is_free (head_of b.1)) a.0 b.0 a.1 b.1 more rest refl refl); areas = are_read_back _ _ (λ a more e. begun _ _ (e ∙ area_shape a more)) areas_read_back; maps = are_read_back _ _ (λ m more e. let none = e ∙ map_shape m more in cc) maps_read_back }
