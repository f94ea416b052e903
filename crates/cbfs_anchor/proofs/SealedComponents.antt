-- A component whose content is overwritten keeps its metadata, and so does the region.
use Rattle.std.proofs.Common.{◌≡◌, ℕ, ◌+◌, ◌-◌, ◌≤◌, ◌%◌, true, false, Bool, cond, All, List, [], ◌∷◌, ◌++◌, length, take, drop, Option, Some, None, Result, Ok, Err, refl, sym, ap, ◌∙◌, arith, le_refl, append_assoc, length-append}
use Rattle.std.specs.Prelude.{slice_range, ◌==◌, if◌then◌else◌}
use Rattle.std.specs.List.{concat}
use Rattle.std.specs.Option.{option_map_or, option_or}
use Rattle.std.specs.Str.{bytes_eq}
use Rattle.std.proofs.lemmas.Bool.Decides.{nat_tests}
use Rattle.std.proofs.lemmas.Grind.{common_steps}
use Rattle.std.proofs.lemmas.List.Elements.{All-append, All-cons, All-head, All-tail}
use Rattle.std.proofs.Math.Seq.{take-append-add, drop-append-add}
use Rattle.std.proofs.lemmas.List.Folds.{concat-append, find-append}
use Rattle.flash_format.specs.declared.head.Head.{Head}
use Rattle.flash_format.specs.declared.head.Extent.{Extent}
use Rattle.flash_format.specs.declared.head.DamageKind.{DamageKind}
use Rattle.flash_format.specs.Head.{extent_of, head_at, head_of, is_free}
use Rattle.flash_format.specs.Entry.{Attribute, attribute_field, cell, component, entry, name_end, name_field, present}
use Rattle.flash_format.specs.Cut.{Cut, End, IsCell, IsCut, cut}
use Rattle.flash_format.specs.Components.{Component, cell_attributes, cell_name, component_at, components, components_from}
use Rattle.flash_format.proofs.CellLists.{components-append}
use Rattle.flash_format.proofs.CutLaws.{cut_exists, cut_unique}
use Rattle.flash_format.proofs.CutSteps as steps
use Rattle.flash_format.proofs.CutSteps.{cell_is, checked_ok}
use Rattle.flash_format.proofs.EntryLaws.{from_head, name_between, present_by}
use Rattle.flash_format.proofs.Fronts.{head_at-take, head_of-take, range-take}
use Rattle.flash_format.proofs.Splices.{All-left, All-right}
use Rattle.flash_device.specs.Device.{overwritten}
use Rattle.flash_device.proofs.BytesLemmas.{length-overwritten, nearer, overwritten-append, take-overwritten}
use Rattle.cbfs_walk.specs.CellReadings.{place_after}
use Rattle.cbfs_walk.specs.Search.{component_in, first_named, not_found}
use Rattle.cbfs_walk.specs.Shapes.{shape_fault}
use Rattle.cbfs_walk.specs.declared.walk.WalkFault.{WalkFault}
use Rattle.cbfs_anchor.specs.declared.algorithm.Algorithm.{Algorithm}
use Rattle.cbfs_anchor.specs.declared.demand.Demand.{Demand}
use Rattle.cbfs_anchor.specs.declared.fault.SealFault.{SealFault}
use Rattle.cbfs_anchor.specs.Faults.{walk_fault}
use Rattle.cbfs_anchor.specs.Metadata.{all_metadata, component_fault, fault_by, first_fault, is_long, metadata, metadata_from, metadata_in, stored_hash, terminated}

front_range : (x y : List ℕ) (n a b : ℕ) → b ≤ n → take n y ≡ take n x → slice_range y a b ≡ slice_range x a b
front_range x y n a b le same = sym (range-take y n a b le) ∙ ap (λ (l : List ℕ). slice_range l a b) same ∙ range-take x n a b le

-- ---- one cell, whose bytes differ after the content's start

pub record Keeps (c d : List ℕ) : Type 0 where
  pub len : length d ≡ length c
  pub head : head_of d ≡ head_of c
  pub cell : IsCell d
  pub used : is_free (head_of c) ≡ false
  pub name : cell_name d ≡ cell_name c
  pub attributes : cell_attributes d ≡ cell_attributes c
  pub metadata : (at : ℕ) → metadata (component_at at d) ≡ metadata (component_at at c)

module _ (c d : List ℕ) (is : IsCell c) (used : is_free (head_of c) ≡ false) (len : length d ≡ length c) (same : take (head_of c).offset d ≡ take (head_of c).offset c) where
  abbrev h : Head
  h = head_of c

  checked : steps.IsCell c (length c)
  checked = cell_is c (length c) is

  checks : steps.IsChecked h (length c) checked.extent
  checks = checked_ok h (length c) checked.extent checked.checks

  room : 24 ≤ h.offset
  room = checks.front

  named : (24 ≤ name_end h) × (name_end h ≤ h.offset)
  named = name_between h (checks.placed used) room

  same_head : head_of d ≡ h
  same_head = sym (head_of-take d h.offset room) ∙ ap (λ (l : List ℕ). head_of l) same ∙ head_of-take c h.offset room

  same_head_at : head_at d ≡ Some h
  same_head_at = sym (head_at-take d h.offset room) ∙ ap (λ (l : List ℕ). head_at l) same ∙ head_at-take c h.offset room ∙ checked.head

  same_field : name_field h d ≡ name_field h c
  same_field = front_range c d h.offset 24 (name_end h) named.1 same

  same_attributes : attribute_field h d ≡ attribute_field h c
  same_attributes = ap (λ (l : List ℕ). if h.attributes_offset == 0 then [] else l) (front_range c d h.offset h.attributes_offset h.offset (le_refl h.offset) same)

  same_component : component h d checked.extent.span ≡ component h c checked.extent.span
  same_component = rw (same_field, same_attributes) refl

  still_a_cell : IsCell d
  still_a_cell =
      let there : entry d ≡ present h d (Ok checked.extent) = from_head d h (omega (arith, len, checked.long)) same_head_at ∙ ap (λ (r : Result Extent DamageKind). present h d r) (ap (extent_of h) len ∙ checked.checks) in
      let here : entry c ≡ present h c (Ok checked.extent) = from_head c h checked.long checked.head ∙ ap (λ (r : Result Extent DamageKind). present h c r) checked.checks in
      there ∙ present_by false h d checked.extent used ∙ same_component ∙ sym (present_by false h c checked.extent used) ∙ sym here ∙ is ∙ ap (λ n. cell n) (sym len)

  same_terminated : terminated (name_end h) h.offset d ≡ terminated (name_end h) h.offset c
  same_terminated =
      let name : take (name_end h - 1) d ≡ take (name_end h - 1) c = nearer c d (name_end h - 1) h.offset (omega (arith, named.1)) same in
      let rest : slice_range d (name_end h) h.offset ≡ slice_range c (name_end h) h.offset = front_range c d h.offset (name_end h) h.offset (le_refl h.offset) same in
      rw (name, rest) refl

  keeps : Keeps c d
  keeps = record {
    len = len;
    head = same_head;
    cell = still_a_cell;
    used = used;
    name = rw (same_head, same_field) refl;
    attributes = rw (same_head, same_attributes) refl;
    metadata = λ at. ap (λ (k : Head). if is_long k.offset then [] else terminated (name_end k) k.offset d) same_head ∙ ap (λ l. if is_long h.offset then [] else l) same_terminated;
  }

-- ---- the components of cells, with another in one's place

metadata-same : (earlier later : List Component) (c d : Component) → metadata d ≡ metadata c → all_metadata (earlier ++ d ∷ later) ≡ all_metadata (earlier ++ c ∷ later)
unfolding all_metadata
metadata-same [] later c d same = ap (λ l. l ++ all_metadata later) same
metadata-same (e ∷ earlier) later c d same = ap (λ l. metadata e ++ l) (metadata-same earlier later c d same)

fault-same : (demand : Demand) (a : Algorithm) (earlier later : List Component) (c d : Component) → component_fault demand a d ≡ component_fault demand a c
    → first_fault demand a (earlier ++ d ∷ later) ≡ first_fault demand a (earlier ++ c ∷ later)
unfolding first_fault
fault-same demand a [] later c d same = ap (λ (o : Option SealFault). option_or o (first_fault demand a later)) same
fault-same demand a (e ∷ earlier) later c d same = ap (λ (o : Option SealFault). option_or (component_fault demand a e) o) (fault-same demand a earlier later c d same)

place-same : (at : ℕ) (before after : List (List ℕ)) (c d : List ℕ) → length d ≡ length c → place_after at (before ++ d ∷ after) ≡ place_after at (before ++ c ∷ after)
place-same at [] after c d len = ap (λ n. place_after (at + n) after) len
place-same at (b ∷ before) after c d len = place-same (at + length b) before after c d len

module _ (c d : List ℕ) (k : Keeps c d) (before after : List (List ℕ)) where
  abbrev p : ℕ
  p = length (concat before)

  abbrev earlier : List Component
  earlier = components_from 0 before

  abbrev later : List Component
  later = components_from (p + length c) after

  from_zero : 0 + p ≡ p
  from_zero = omega arith

  with_old : components_from 0 (before ++ c ∷ after) ≡ earlier ++ component_at p c ∷ later
  unfolding components_from
  with_old = components-append 0 before (c ∷ after) ∙ ap (λ n. earlier ++ components_from n (c ∷ after)) from_zero ∙ ap (λ b. earlier ++ cond b later (component_at p c ∷ later)) k.used

  with_new : components_from 0 (before ++ d ∷ after) ≡ earlier ++ component_at p d ∷ later
  unfolding components_from
  with_new =
      let free : is_free (head_of d) ≡ false = ap (λ (h : Head). is_free h) k.head ∙ k.used in
      components-append 0 before (d ∷ after) ∙ ap (λ n. earlier ++ components_from n (d ∷ after)) from_zero
      ∙ ap (λ b. earlier ++ cond b (components_from (p + length d) after) (component_at p d ∷ components_from (p + length d) after)) free
      ∙ ap (λ n. earlier ++ component_at p d ∷ components_from (p + n) after) k.len

  fault_kept : (demand : Demand) (a : Algorithm) → component_fault demand a (component_at p d) ≡ component_fault demand a (component_at p c)
  fault_kept demand a =
      ap (λ (h : Head). fault_by demand a p h.kind h.offset (stored_hash (cell_attributes d))) k.head
      ∙ ap (λ (l : List Attribute). fault_by demand a p (head_of c).kind (head_of c).offset (stored_hash l)) k.attributes

  pub metadata_kept : (demand : Demand) (a : Algorithm) (e : End) → metadata_from demand a 0 (record { cells = before ++ d ∷ after; end = e }) ≡ metadata_from demand a 0 (record { cells = before ++ c ∷ after; end = e })
  metadata_kept demand a e =
      rw (
        with_new,
        with_old,
        place-same 0 before after c d k.len,
        metadata-same earlier later (component_at p c) (component_at p d) (k.metadata p),
        fault-same demand a earlier later (component_at p c) (component_at p d) (fault_kept demand a),
      ) refl

  pub found_kept : (name : List ℕ) → first_named name earlier ≡ None → bytes_eq (cell_name c) name ≡ true → first_named name (components_from 0 (before ++ d ∷ after)) ≡ Some (component_at p d)
  found_kept name none named =
      let here : bytes_eq (cell_name d) name ≡ true = ap (λ l. bytes_eq l name) k.name ∙ named in
      ap (first_named name) with_new ∙ find-append (λ (f : Component). bytes_eq f.name name) earlier (component_at p d ∷ later)
      ∙ ap (λ (o : Option Component). option_or o (first_named name (component_at p d ∷ later))) none
      ∙ ap (λ b. cond b (Some (component_at p d)) (first_named name later)) here

-- ---- the cell of a found component

pub record IsFoundIn (name : List ℕ) (at : ℕ) (cells : List (List ℕ)) (f : Component) : Type 0 where
  pub before : List (List ℕ)
  pub bytes : List ℕ
  pub after : List (List ℕ)
  pub all : cells ≡ before ++ (bytes ∷ after)
  pub is : f ≡ component_at (at + length (concat before)) bytes
  pub used : is_free (head_of bytes) ≡ false
  pub named : bytes_eq (cell_name bytes) name ≡ true
  pub first : first_named name (components_from at before) ≡ None

module _ (name : List ℕ) (at : ℕ) (z : List ℕ) (cells : List (List ℕ)) (f : Component) where
  -- after a cell that has not the name
  over : ((before : List (List ℕ)) → first_named name (components_from (at + length z) before) ≡ None → first_named name (components_from at (z ∷ before)) ≡ None)
      → IsFoundIn name (at + length z) cells f → IsFoundIn name at (z ∷ cells) f
  over first i = record {
    before = z ∷ i.before;
    bytes = i.bytes;
    after = i.after;
    all = ap (λ (l : List (List ℕ)). z ∷ l) i.all;
    is = i.is ∙ ap (λ n. component_at n i.bytes) (omega (arith, length-append z (concat i.before)));
    used = i.used;
    named = i.named;
    first = first i.before i.first;
  }

  over_free : is_free (head_of z) ≡ true → (before : List (List ℕ)) → first_named name (components_from (at + length z) before) ≡ None → first_named name (components_from at (z ∷ before)) ≡ None
  unfolding components_from
  over_free free before none = ap (λ b. first_named name (cond b (components_from (at + length z) before) (component_at at z ∷ components_from (at + length z) before))) free ∙ none

  over_other : is_free (head_of z) ≡ false → bytes_eq (cell_name z) name ≡ false
      → (before : List (List ℕ)) → first_named name (components_from (at + length z) before) ≡ None → first_named name (components_from at (z ∷ before)) ≡ None
  unfolding components_from
  over_other used other before none =
      ap (λ b. first_named name (cond b (components_from (at + length z) before) (component_at at z ∷ components_from (at + length z) before))) used
      ∙ ap (λ b. cond b (Some (component_at at z)) (first_named name (components_from (at + length z) before))) other ∙ none

  here : is_free (head_of z) ≡ false → bytes_eq (cell_name z) name ≡ true → component_at at z ≡ f → IsFoundIn name at (z ∷ cells) f
  unfolding components_from
  here used named is = record {
    before = [];
    bytes = z;
    after = cells;
    all = refl;
    is = sym is ∙ ap (λ n. component_at n z) (let same : at ≡ at + length (concat []) = omega arith in same);
    used = used;
    named = named;
    first = refl;
  }

  module _ (rec : first_named name (components_from (at + length z) cells) ≡ Some f → IsFoundIn name (at + length z) cells f) where
    pick : is_free (head_of z) ≡ false → (b : Bool) → bytes_eq (cell_name z) name ≡ b → cond b (Some (component_at at z)) (first_named name (components_from (at + length z) cells)) ≡ Some f → IsFoundIn name at (z ∷ cells) f
    pick used true named found = here used named (let e : component_at at z ≡ f = cc in e)
    pick used false other found = over (over_other used other) (rec found)

    step : (free : Bool) → is_free (head_of z) ≡ free → first_named name (cond free (components_from (at + length z) cells) (component_at at z ∷ components_from (at + length z) cells)) ≡ Some f → IsFoundIn name at (z ∷ cells) f
    step true free found = over (over_free free) (rec found)
    step false used found = pick used (bytes_eq (cell_name z) name) refl found

found_in_cells : (name : List ℕ) (at : ℕ) (cells : List (List ℕ)) (f : Component) → first_named name (components_from at cells) ≡ Some f → IsFoundIn name at cells f
unfolding components_from
found_in_cells name at [] f is = absurd cc
found_in_cells name at (z ∷ cells) f is = step name at z cells f (found_in_cells name (at + length z) cells f) (is_free (head_of z)) refl is

-- ---- the region

found_parts : (o : Option WalkFault) (n : Option Component) (at : ℕ) (e : End) (f : Component)
    → option_map_or (λ fault. Err fault) o (option_map_or (λ c. Ok (Some c)) n (not_found at e)) ≡ Ok (Some f) → (o ≡ None) × (n ≡ Some f)
found_parts o n at e f is = grind (arith, common_steps)

overwritten-later : (p q u : List ℕ) (k : ℕ) → overwritten (p ++ q) (length p + k) u ≡ p ++ overwritten q k u
overwritten-later p q u k =
    let at : length p + k + length u ≡ length p + (k + length u) = omega arith in
    rw (take-append-add p q k, at, drop-append-add p q (k + length u)) (append_assoc p (take k q) (u ++ drop (k + length u) q))

module _ (x name : List ℕ) (f : Component) (found : component_in x name ≡ Ok (Some f)) where
  parts : (shape_fault x ≡ None) × (first_named name (components x) ≡ Some f)
  unfolding component_in
  parts = found_parts (shape_fault x) (first_named name (components x)) (place_after 0 (cut x).cells) (cut x).end f found

  aligned : length x % 64 ≡ 0
  aligned = let shape = parts.0 in grind (arith, nat_tests)

  pub whole_cut : (rest : List ℕ) × IsCut x (cut x).cells rest (cut x).end
  whole_cut = cut_exists x aligned

  pub its_cell : IsFoundIn name 0 (cut x).cells f
  its_cell = found_in_cells name 0 (cut x).cells f parts.1

  abbrev c : List ℕ
  c = its_cell.bytes

  abbrev start : List ℕ
  start = concat its_cell.before

  abbrev rest : List ℕ
  rest = concat its_cell.after ++ whole_cut.0

  each : All IsCell (its_cell.before ++ (c ∷ its_cell.after))
  each = rw its_cell.all at whole_cut.1.each

  is_cell : IsCell c
  is_cell = All-head IsCell c its_cell.after (All-right IsCell its_cell.before (c ∷ its_cell.after) each)

  joined : (d : List ℕ) → concat (its_cell.before ++ (d ∷ its_cell.after)) ++ whole_cut.0 ≡ start ++ (d ++ rest)
  joined d = simp (concat-append, append_assoc)

  pub whole : x ≡ start ++ (c ++ rest)
  whole = whole_cut.1.whole ∙ ap (λ (l : List (List ℕ)). concat l ++ whole_cut.0) its_cell.all ∙ joined c

  pub position : f ≡ component_at (length start) c
  position = its_cell.is ∙ ap (λ n. component_at n c) (let same : 0 + length start ≡ length start = omega arith in same)

  -- the content of the cell lies in the region
  pub content_inside : (24 ≤ (head_of c).offset) × ((head_of c).offset + (head_of c).len ≤ length c) × (length start + length c ≤ length x)
  content_inside =
      let e = cell_is c (length c) is_cell in
      let k = checked_ok (head_of c) (length c) e.extent e.checks in
      (k.front, k.inside, omega (arith, ap length whole, length-append start (c ++ rest), length-append c rest))

  -- bytes are overwritten from a position of the cell on
  module _ (k : ℕ) (u : List ℕ) (low : (head_of c).offset ≤ k) (high : k + length u ≤ length c) where
    abbrev d : List ℕ
    d = overwritten c k u

    abbrev y : List ℕ
    y = overwritten x (length start + k) u

    kept : Keeps c d
    kept = keeps c d is_cell its_cell.used (length-overwritten c k u high) (take-overwritten c k u (head_of c).offset low (omega (arith, high)))

    whole_y : y ≡ start ++ (d ++ rest)
    whole_y = ap (λ l. overwritten l (length start + k) u) whole ∙ overwritten-later start (c ++ rest) u k ∙ ap (λ l. start ++ l) (overwritten-append c rest k u high)

    cut_y : cut y ≡ record { cells = its_cell.before ++ (d ∷ its_cell.after); end = (cut x).end }
    cut_y = cut_unique y (its_cell.before ++ (d ∷ its_cell.after)) whole_cut.0 (cut x).end (record {
      whole = whole_y ∙ sym (joined d);
      each = All-append IsCell its_cell.before (d ∷ its_cell.after) (All-left IsCell its_cell.before (c ∷ its_cell.after) each)
          (All-cons IsCell d its_cell.after kept.cell (All-tail IsCell c its_cell.after (All-right IsCell its_cell.before (c ∷ its_cell.after) each)));
      last = whole_cut.1.last;
    })

    length_y : length y ≡ length x
    length_y = length-overwritten x (length start + k) u (omega (arith, high, content_inside.2))

    shape_y : shape_fault y ≡ shape_fault x
    shape_y =
        let front : take 24 y ≡ take 24 x = take-overwritten x (length start + k) u 24 (omega (arith, low, content_inside.0)) (omega (arith, high, content_inside.2)) in
        let head : head_at y ≡ head_at x = sym (head_at-take y 24 (omega arith)) ∙ ap (λ (l : List ℕ). head_at l) front ∙ head_at-take x 24 (omega arith) in
        rw (length_y, head) refl

    pub region_metadata : (demand : Demand) (a : Algorithm) → metadata_in demand a y ≡ metadata_in demand a x
    unfolding metadata_in
    region_metadata demand a =
        let after : metadata_from demand a 0 (cut y) ≡ metadata_from demand a 0 (cut x) = ap (metadata_from demand a 0) cut_y ∙ metadata_kept c d kept its_cell.before its_cell.after demand a (cut x).end
        ∙ ap (λ (l : List (List ℕ)). metadata_from demand a 0 (record { cells = l; end = (cut x).end })) (sym its_cell.all) in
        ap (λ (o : Option WalkFault). option_map_or (λ fault. Err (walk_fault fault)) o (metadata_from demand a 0 (cut y))) shape_y
        ∙ ap (λ (r : Result (List ℕ) SealFault). option_map_or (λ fault. Err (walk_fault fault)) (shape_fault x) r) after

    pub region_component : component_in y name ≡ Ok (Some (component_at (length start) d))
    unfolding component_in
    region_component =
        let first : first_named name (components y) ≡ Some (component_at (length start) d) = ap (λ (l : List (List ℕ)). first_named name (components_from 0 l)) (ap (λ (k : Cut). k.cells) cut_y) ∙ found_kept c d kept its_cell.before its_cell.after name its_cell.first its_cell.named in
        let shape : shape_fault y ≡ None = shape_y ∙ parts.0 in
        rw (shape, first) refl

    pub region_head : head_of d ≡ head_of c
    region_head = kept.head
