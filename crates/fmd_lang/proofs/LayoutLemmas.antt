-- The layout of a tree, by section.
use Rattle.std.proofs.lemmas.Bool.Decides.{nat_tests}
use Rattle.std.proofs.lemmas.Grind.{common_steps}
use Rattle.std.proofs.Common.{◌≡◌, ℕ, suc, ◌+◌, ◌<◌, ◌≤◌, List, [], ◌∷◌, ◌++◌, length, drop, take, min, replicate, Option, get_or, IsTrue, nat_le, Some, None, Result, Ok, Err, unwrap_or, length-append, refl, sym, ◌∙◌, ap, arith, add-one, append_assoc}
use Rattle.std.proofs.Math.Nat.{min_comm}
use Rattle.std.proofs.Math.Seq.{drop-cons}
use Rattle.std.proofs.lemmas.List.{take_min, drop-replicate}
use Rattle.fmd_lang.specs.Grammar.{Tree, section, Forest, none, some, names, names_of, size_of, view, views}
use Rattle.fmd_lang.specs.declared.section.Section.TheFolds.{fold_out-Section}
use Rattle.fmd_lang.specs.Table.{root_fault, field_of, area_limit, section_area, areas_below, areas_of, IsTable, table_head, layout_fault, names_fault, table_fault}
use Rattle.fmd_lang.specs.Layout.{and_then, siblings, places_of}
use Rattle.std.specs.List.{list_all}
use Rattle.std.specs.Option.{option_or}
use Rattle.std.specs.Result.{result_err, result_unwrap_or}
use Rattle.fmd_lang.proofs.OptionLemmas.{or-none}
use Rattle.fmd_lang.proofs.RowLemmas.{and_then-ok, length-placed, place_end, placed-inside, valid-places}
use Rattle.fmd_lang.specs.declared.table.Table.{Table}
use Rattle.fmd_lang.specs.declared.row.Sibling.{Sibling}
use Rattle.fmd_lang.specs.declared.row.Place.{Place}
use Rattle.flash_format.specs.declared.flashmap.Area.{Area}
use Rattle.fmd_lang.specs.declared.fault.FmdFault.{FmdFault}
use Rattle.fmd_lang.specs.declared.section.Section.{Section, out-Section}

abbrev pub section_count : Tree → ℕ
section_count t = length (names t)

pub view-is : (s : Section) → view s ≡ section (out-Section s).name.items (out-Section s).flags (out-Section s).offset
    (out-Section s).size (views (out-Section s).parts.items)
view-is s = fold_out-Section Tree _ s

some-names : (t : Tree) → 0 < section_count t
some-names (section name flags offset size parts) = omega arith

pub length-siblings : (n : ℕ) (ss : List Section) → length (siblings n (views ss)) ≡ length ss
length-siblings n [] = refl
length-siblings n (s ∷ ss) = ap suc (length-siblings (n + section_count (view s)) ss)

pub view-count : (s : Section) → section_count (view s) ≡ suc (length (names_of (views (out-Section s).parts.items)))
view-count s = rw (view-is s) refl

pub field-is : (name : List ℕ) → take (min (length name) 32) name ++ drop (min (length name) 32) (replicate 32 0) ≡ field_of name
field-is name = simp (min_comm, take_min, drop-replicate) (grind arith)

-- ---- areas, by part

mutual
  -- as many areas as sections below the root
  pub count-below : (t : Tree) (at size : ℕ) (areas new : List Area) → areas_below at size t areas ≡ Ok new →
      length new + 1 ≡ length areas + section_count t
  count-below (section name flags offset given parts) at size areas new h =
      let row = siblings (length areas + 1) parts in
      let (qs, placed, rest) = and_then-ok (places_of size row) (areas_of at parts areas) new h in
      let len = length-placed row size 0 qs (valid-places size row qs placed).1 in
      omega (arith, count-of parts at (length areas + 1) areas new qs len rest)

  count-of : (ts : Forest) (at n : ℕ) (areas new : List Area) (qs : List Place) → length qs ≡ length (siblings n ts) →
      areas_of at ts areas qs ≡ Ok new → length new ≡ length areas + length (names_of ts)
  count-of none at n areas new qs len h = let same : areas ≡ new = cc in omega (arith, ap length same)
  count-of (some t ts) at n areas new [] len h = absurd (omega arith)
  count-of (some t ts) at n areas new (q ∷ qs) len h =
      let a = section_area at q t in
      let (more, below, rest) = and_then-ok (areas_below (at + q.start) q.size t (areas ++ a ∷ [])) (λ l. areas_of at ts l qs) new h in
      omega (
        arith,
        length-append areas (a ∷ []),
        length-append (names t) (names_of ts),
        count-below t (at + q.start) q.size (areas ++ a ∷ []) more below,
        count-of ts at (n + section_count t) more new qs (omega (arith, len)) rest,
      )

next : {X : Type 0} (xs : List X) (k : ℕ) (x : X) → k < length xs → x ≡ get_or xs k x → drop k xs ≡ x ∷ drop (k + 1) xs
next xs k x there is = rw (drop-cons xs k x there, ← is, add-one) refl

pub area-is : (at : ℕ) (q : Place) (s : Section) → section_area at q (view s) ≡
    record { offset = at + q.start; size = q.size; name = field_of (out-Section s).name.items; flags = (out-Section s).flags }
area-is at q s = rw (view-is s) refl

pub names-from : (ss : List Section) (k : ℕ) (s : Section) → k < length ss → s ≡ get_or ss k s →
    names_of (views (drop k ss)) ≡ names (view s) ++ names_of (views (drop (k + 1) ss))
names-from ss k s there is = rw (next ss k s there is) refl

pub count-from : (ss : List Section) (k : ℕ) (s : Section) → k < length ss → s ≡ get_or ss k s →
    length (names_of (views (drop k ss))) ≡ section_count (view s) + length (names_of (views (drop (k + 1) ss)))
count-from ss k s there is =
    ap length (names-from ss k s there is) ∙ length-append (names (view s)) (names_of (views (drop (k + 1) ss)))

pub sibling-pushed : {whole : List Sibling} {count : ℕ} (row : List Sibling) (n k : ℕ) (ss : List Section) (s : Section) →
    (row ++ siblings n (views (drop k ss)) ≡ whole) × (n + length (names_of (views (drop k ss))) ≡ count) → k < length ss → s ≡ get_or ss k s →
    ((row ++ record { number = n; offset = (out-Section s).offset; size = (out-Section s).size } ∷ [])
    ++ siblings (n + section_count (view s)) (views (drop (k + 1) ss)) ≡ whole)
    × (n + section_count (view s) + length (names_of (views (drop (k + 1) ss))) ≡ count)
sibling-pushed row n k ss s so_far there is = grind (arith, next, view-is, append_assoc, count-from)

-- The areas of the first k parts of a section and below are pushed after `old`.
pub record IsPushed (old areas : List Area) (at size : ℕ) (whole : Tree) (qs : List Place) (ss : List Section) (k : ℕ) : Type 0 where
  pub len : length qs ≡ length ss
  pub inside : IsTrue (list_all (λ q. nat_le (place_end q) size) qs)
  pub more : length old ≤ length areas
  pub count : length areas + 1 + length (names_of (views (drop k ss))) ≡ length old + section_count whole
  pub items : areas_below at size whole old ≡ areas_of at (views (drop k ss)) areas (drop k qs)

abbrev ok_row : List Sibling → Result (List Sibling) FmdFault
ok_row row = Ok row

pub none-pushed : (s : Section) (old : List Area) (at size n : ℕ) (shown : List Section) (row seen : List Sibling) (qs : List Place) →
    shown ≡ (out-Section s).parts.items → n ≡ length old → ok_row (siblings (n + 1) (views shown)) ≡ Ok row → seen ≡ row →
    places_of size seen ≡ Ok qs → IsPushed old old at size (view s) qs (out-Section s).parts.items 0
none-pushed s old at size n shown row seen qs parts len made same placed =
    let is : row ≡ siblings (length old + 1) (views (out-Section s).parts.items) = rw (← parts, ← len) cc in
    let are = (valid-places size seen qs placed).1 in
    let here = rw (same, is) at placed in
    record {
      len = length-placed seen size 0 qs are ∙ ap length (same ∙ is) ∙ length-siblings (length old + 1) (out-Section s).parts.items;
      inside = placed-inside seen size 0 qs are;
      more = omega arith;
      count = omega (arith, view-count s);
      items = rw (view-is s, here) refl;
    }

pub row-refused : (s : Section) (old : List Area) (at size n : ℕ) (shown : List Section) (row seen : List Sibling) (fault : FmdFault) →
    shown ≡ (out-Section s).parts.items → n ≡ length old → ok_row (siblings (n + 1) (views shown)) ≡ Ok row → seen ≡ row →
    places_of size seen ≡ Err fault → areas_below at size (view s) old ≡ Err fault
row-refused s old at size n shown row seen fault parts len made same refused =
    let is : row ≡ siblings (length old + 1) (views (out-Section s).parts.items) = rw (← parts, ← len) cc in
    let here = rw (same, is) at refused in
    rw (view-is s, here) refl

pub place-inside : (size : ℕ) (qs : List Place) (k : ℕ) (q : Place) → IsTrue (list_all (λ p. nat_le (place_end p) size) qs) →
    k < length qs → q ≡ get_or qs k q → place_end q ≤ size
place-inside size qs k q inside there is = grind (arith, common_steps)

-- the areas of the next part and below
pub part-next : {old areas : List Area} {at size : ℕ} {whole : Tree} {qs : List Place} {ss : List Section} {k : ℕ} (q : Place)
    (s : Section) → IsPushed old areas at size whole qs ss k → k < length ss → s ≡ get_or ss k s → q ≡ get_or qs k q →
    areas_below at size whole old ≡ and_then (areas_below (at + q.start) q.size (view s) (areas ++ section_area at q (view s) ∷ []))
    (λ more. areas_of at (views (drop (k + 1) ss)) more (drop (k + 1) qs))
part-next {qs = qs} {ss = ss} {k = k} q s so_far there is place =
    so_far.items ∙ rw (next ss k s there is, next qs k q (omega (arith, so_far.len)) place) refl

pub part-pushed : {old before areas : List Area} {at size : ℕ} {whole : Tree} {qs : List Place} {ss : List Section} {k : ℕ} (q : Place)
    (s : Section) (pushed : List Area) → IsPushed old before at size whole qs ss k → k < length ss → s ≡ get_or ss k s → q ≡ get_or qs k q →
    pushed ≡ before ++ section_area at q (view s) ∷ [] → areas_below (at + q.start) q.size (view s) pushed ≡ Ok areas →
    IsPushed old areas at size whole qs ss (k + 1)
part-pushed {before = before} {areas = areas} {at = at} {ss = ss} {k = k} q s pushed so_far there is place items below =
    let pushed_count : length areas + 1 ≡ length before + 1 + section_count (view s) =
    omega (arith, count-below (view s) (at + q.start) q.size pushed areas below, ap length items, length-append before (section_area at q (view s) ∷ [])) in record {
      len = so_far.len;
      inside = so_far.inside;
      more = omega (arith, so_far.more, some-names (view s), pushed_count);
      count = omega (arith, so_far.count, count-from ss k s there is, pushed_count);
      items = part-next q s so_far there is place ∙ rw (← items, below) refl;
    }

pub few-sections : (t : Tree) → names_fault (names t) ≡ None → section_count t ≤ area_limit + 1
few-sections (section name flags offset size parts) h = grind (arith, nat_tests, or-none)

pub table-is : (s : Section) (table : Table) → table.base ≡ unwrap_or (out-Section s).offset 0 →
    (out-Section s).size ≡ Some table.size → table.name ≡ field_of (out-Section s).name.items →
    areas_below 0 table.size (view s) [] ≡ Ok table.areas.items → IsTable (view s) table
table-is s table base size name areas = rw (view-is s) (base, size, name, rw (view-is s) at areas)

-- ---- a whole tree

-- the faults before those of the areas
pub root-sized : (s : Section) (size : Option ℕ) → names_fault (names (view s)) ≡ None → (out-Section s).size ≡ size →
    layout_fault (view s) ≡ (let areas = areas_below 0 (unwrap_or size 0) (view s) [] in
    option_or (root_fault size) (option_or (result_err areas) (table_fault (result_unwrap_or areas []))))
unfolding layout_fault
root-sized s size named sized =
    let given : size_of (view s) ≡ size = rw (view-is s) sized in
    rw (named, given) refl

pub one-table : (t : Tree) (one other : Table) → IsTable t one → IsTable t other →
    (table_head one ≡ table_head other) × (one.areas.items ≡ other.areas.items)
one-table (section name flags offset size parts) one other h k =
    let t = section name flags offset size parts in
    let same : one.size ≡ other.size = cc in
    let base : one.base ≡ other.base = h.0 ∙ sym k.0 in
    let named : one.name ≡ other.name = h.2 ∙ sym k.2 in
    let laid = rw same at h.3 in
    let areas : one.areas.items ≡ other.areas.items = cc in
    (cc, areas)
