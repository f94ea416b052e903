-- The bytes of a table parse as a valid map.
use Rattle.std.proofs.lemmas.Bool.Decides.{nat_tests}
use Rattle.std.proofs.Common.{◌≡◌, inl, inr, ℕ, ◌+◌, ◌^◌, ◌<◌, ◌≤◌, nat_le, nat_lt, true, Ok, All, List, [], ◌∷◌, ◌++◌, length, refl, ◌∙◌, ap, subst, arith, rules}
use Rattle.std.specs.Prelude.{Option, Some, None, unwrap_or}
use Rattle.std.specs.Int.Bits.{bit_or}
use Rattle.std.proofs.lemmas.Nat.{or_lt}
use Rattle.std.proofs.lemmas.Bool.{leb-true, ltb-true}
use Rattle.std.proofs.lemmas.List.Elements.{All-nil, All-cons, All-append}
use Rattle.flash_format.specs.declared.flashmap.Area.{Area}
use Rattle.flash_format.specs.Flashmap.{is_map_name}
use Rattle.flash_format.specs.Laws.{IsReadAsMap}
use Rattle.flash_format.proofs.MapBytes.{IsAreaInBytes, maps_read_back}
use Rattle.fmd_lang.specs.Words.{Word, words}
use Rattle.fmd_lang.specs.Faults.{first_fault}
use Rattle.fmd_lang.specs.Table.{layout_fault, field_of, areas_below, areas_of, IsTable, section_area, table_bytes, table_head}
use Rattle.fmd_lang.specs.Grammar.{Tree, section, Forest, none, some, AreAnnotations, AreSections, IsSection, annotation_flag, flags_with}
use Rattle.fmd_lang.specs.Layout.{places_of, siblings}
use Rattle.fmd_lang.specs.declared.row.Place.{Place}
use Rattle.fmd_lang.specs.declared.table.Table.{Table}
use Rattle.fmd_lang.proofs.FaultlessTables.{Fits, few_areas, numbers_fit, offset_fits, size_fits}
use Rattle.fmd_lang.proofs.RowLemmas.{and_then-ok, place_end, placed-inside, valid-places}
use Rattle.std.specs.List.{list_all}
use Rattle.std.specs.Cmp.{first_so, second_so}
use Rattle.fmd_lang.proofs.NameFields.{all-behind, field_long, field_named, first_name}
use Rattle.fmd_lang.proofs.FormLemmas.{each-annotation}
use Rattle.fmd_lang.proofs.OptionLemmas.{and-then-some}

-- ---- the areas

few_flags : (bytes : List ℕ) (flag : ℕ) → annotation_flag bytes ≡ Some flag → flag < 2 ^ 16
few_flags bytes flag known = ltb-true flag (2 ^ 16) (each-annotation (λ row. nat_lt row.1 (2 ^ 16)) refl bytes flag known)

joined_flags : (ws : List Word) (before flags : ℕ) → before < 2 ^ 16 → flags_with before ws ≡ Some flags → flags < 2 ^ 16
joined_flags [] before flags few h = omega (arith, ap (λ o. unwrap_or o 0) h)
joined_flags (w ∷ ws) before flags few h =
    let (flag, known, rest) = and-then-some (annotation_flag w.bytes) (λ f. flags_with (bit_or before f) ws) flags h in
    joined_flags ws (bit_or before flag) flags (or_lt 16 before flag few (few_flags w.bytes flag known)) rest

small_flags : (flags : ℕ) (ws : List Word) → AreAnnotations flags ws → flags < 2 ^ 16
small_flags flags ws (inl nothing) = omega (arith, nothing.1)
small_flags flags ws (inr (front, back, shape, opens, (listed, last, inner, (some_there, flagged), closes))) = grind (arith, nat_tests, joined_flags)

area_fits : (t : Tree) (ws : List Word) (at : ℕ) (q : Place) → IsSection t ws → at + place_end q < 2 ^ 32 →
    IsAreaInBytes (section_area at q t)
area_fits (section name flags offset given parts) ws at q (a, b, split, (w, one, is), (marks, c, more, annotated, others)) small = search (arith, rules, field_long, small_flags)

parts-are : (name : List ℕ) (flags : ℕ) (offset given : Option ℕ) (parts : Forest) (ws : List Word) →
    IsSection (section name flags offset given parts) ws → (inner : List Word) × AreSections parts inner
parts-are name flags offset given parts ws (a, b, split, named, (c, d, more, annotated, (e, f, last, placed, rest))) =
    let (g, h, shape, sized, body) = rest in
    elim body [
      | inl empty ↦ ([], rw (empty.1) refl)
      | inr (i, j, braced, opens, (inner, k, inside, sections, closes)) ↦ (inner, sections)
    ]

mutual
  -- if a section ends below 2^32, each area below fits into the fields
  areas_fit : (t : Tree) (ws : List Word) (at size : ℕ) (areas new : List Area) → IsSection t ws → at + size < 2 ^ 32 →
      All IsAreaInBytes areas → areas_below at size t areas ≡ Ok new → All IsAreaInBytes new
  areas_fit (section name flags offset given parts) ws at size areas new is small so_far h =
      let (inner, sections) = parts-are name flags offset given parts ws is in
      let row = siblings (length areas + 1) parts in
      let (qs, placed, rest) = and_then-ok (places_of size row) (areas_of at parts areas) new h in
      let inside = placed-inside row size 0 qs (valid-places size row qs placed).1 in
      parts_fit parts inner at size areas new qs sections small inside so_far rest

  parts_fit : (ts : Forest) (ws : List Word) (at size : ℕ) (areas new : List Area) (qs : List Place) → AreSections ts ws →
      at + size < 2 ^ 32 → list_all (λ q. nat_le (place_end q) size) qs ≡ true → All IsAreaInBytes areas →
      areas_of at ts areas qs ≡ Ok new → All IsAreaInBytes new
  parts_fit none ws at size areas new qs sections small inside so_far h =
      let same : areas ≡ new = cc in subst (All IsAreaInBytes) same so_far
  parts_fit (some t ts) ws at size areas new [] sections small inside so_far h =
      let same : areas ≡ new = cc in subst (All IsAreaInBytes) same so_far
  parts_fit (some t ts) ws at size areas new (q ∷ qs) (front, rest, shape, one, others) small inside so_far h =
      let a = section_area at q t in
      let (more, below, behind) = and_then-ok (areas_below (at + q.start) q.size t (areas ++ a ∷ [])) (λ l. areas_of at ts l qs) new h in
      let ends : place_end q ≤ size = leb-true (place_end q) size (first_so (nat_le (place_end q) size) _ inside) in
      let first = area_fits t front at q one (omega (arith, ends, small)) in
      let all = areas_fit t front (at + q.start) q.size (areas ++ a ∷ []) more one (omega (arith, ends, small))
      (All-append IsAreaInBytes areas (a ∷ []) so_far (All-cons IsAreaInBytes a [] first (All-nil IsAreaInBytes))) below in
      parts_fit ts rest at size more new qs others small (second_so (nat_le (place_end q) size) _ inside) all behind

-- ---- the table

fits-behind : (ws front behind : List Word) → ws ≡ front ++ behind → All Fits ws → All Fits behind
fits-behind ws front behind split each = all-behind Fits front behind (subst (All Fits) split each)

pub table_read : (t : Tree) (text more : List ℕ) (table : Table) → first_fault text ≡ None → IsSection t (words text) →
    layout_fault t ≡ None → IsTable t table → IsReadAsMap (table_head table) table.areas.items (table_bytes table ++ more)
table_read (section name flags offset given parts) text more table fine is laid (based, sized, called, areas) =
    let t : Tree = section name flags offset given parts in
    let (first, rest, split, (w, one, (kind, named, short)), (marks, others, marked, annotated, placed)) = is in
    let (place, last, last_shape, at, (number, body, body_shape, size_is, inside)) = placed in
    let begins : words text ≡ w ∷ rest = split ∙ ap (λ v. v ++ rest) one in
    let good : is_map_name (field_of name) ≡ true = field_named name short (rw named at (first_name text w rest begins kind)) in
    let after = fits-behind (words text) first rest split (numbers_fit text fine) in
    let each : All Fits others = fits-behind rest marks others marked after in
    let behind : All Fits (number ++ body) = subst (All Fits) body_shape (fits-behind others place last last_shape each) in
    let base = offset_fits offset place last at (subst (All Fits) last_shape each) in
    let size = size_fits given table.size number body sized size_is behind in
    maps_read_back (table_head table) table.areas.items more (record {
      major = refl;
      base = omega (arith, base, based);
      size = size;
      name = ap length called ∙ field_long name short;
      named = ap is_map_name called ∙ good;
      counted = refl;
      few = omega (arith, few_areas t table laid (based, sized, called, areas));
      each = areas_fit t (words text) 0 table.size [] table.areas.items is (omega (arith, size)) (All-nil IsAreaInBytes) areas;
    })
