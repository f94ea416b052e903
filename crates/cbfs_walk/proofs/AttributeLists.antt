-- The start and rest of an attribute list.
use Rattle.std.proofs.lemmas.Grind.{common_steps}
use Rattle.std.proofs.Common.{◌≡◌, ℕ, ◌+◌, ◌-◌, ◌≤◌, min, Bool, true, false, cond, List, [], ◌∷◌, length, take, drop, Option, Some, None, refl, sym, ap, subst, ◌∙◌, arith}
use Rattle.std.specs.Prelude.{slice_range, slice_get, is_some, unwrap_or}
use Rattle.std.specs.Option.{option_map}
use Rattle.std.proofs.lemmas.Bool.{le-ltb}
use Rattle.flash_format.specs.declared.attribute.AttrHead.{AttrHead}
use Rattle.flash_format.specs.declared.head.Head.{Head}
use Rattle.flash_format.specs.Head.{head_of, is_free}
use Rattle.flash_format.specs.Entry.{Attribute, at_end, at_malformed, attribute, attributes, attr_head_of, ends_list, is_unused, has_bad_len, least_len, attribute_field, name_end, attribute_then, scan_of}
use Rattle.flash_format.specs.Components.{cell_attributes}
use Rattle.flash_format.proofs.Fronts.{attr_head_of-take}
use Rattle.flash_format.proofs.AttributeSteps.{attribute_len, attributes_end, attributes_malformed, attributes_more, is_malformed, scan-end, scan-malformed, scan-more}
use Rattle.flash_device.specs.Regions.{Range, LiesIn, bytes_in}
use Rattle.cbfs_walk.specs.Cells.{cell_in}
use Rattle.cbfs_walk.specs.Walks.{StandsIn}
use Rattle.cbfs_walk.specs.AttrWalks.{attributes_left, head_of_attribute, next_attribute}
use Rattle.cbfs_walk.specs.declared.cell.Cell.{Cell}
use Rattle.cbfs_walk.specs.declared.attribute_walk.AttributeItem as declared
use Rattle.cbfs_walk.specs.declared.attribute_walk.AttributeItem.TheVariants.{End, Malformed}
use Rattle.cbfs_walk.specs.declared.attribute_walk.AttributeItem.TheVariants as listed
use Rattle.cbfs_walk.proofs.Parts.{length-region, length-range, range-take, range-after, range-drop}
use Rattle.cbfs_walk.proofs.CutLaws.{standing, standing_good, cell_head, cell_part, component_whole}

-- ---- reads at a position

listed_by : (x : List ℕ) (at end : ℕ) (h : AttrHead) → at + 8 ≤ end → end ≤ length x → h ≡ attr_head_of (slice_range x at (at + 8))
    → cond (is_unused h.tag) End (cond (has_bad_len h (end - at)) Malformed (listed.Attribute h)) ≡ next_attribute (slice_range x at end)
listed_by x at end h room inside e = grind (arith, common_steps, attr_head_of-take, le-ltb, length-range, range-take)

pub listed_tested : (r : Range) (image : List ℕ) (at end : ℕ) (h : AttrHead) (unused bad : Bool) → LiesIn r image → end ≤ r.size → 8 ≤ end - at → h ≡ attr_head_of (slice_range (bytes_in r image) at (at + 8))
    → unused ≡ is_unused h.tag → bad ≡ has_bad_len h (end - at) → cond unused End (cond bad Malformed (listed.Attribute h)) ≡ next_attribute (slice_range (bytes_in r image) at end)
listed_tested r image at end h unused bad lies inside room head is_unused_is is_bad = grind (arith, common_steps, length-region, listed_by)

-- ---- the rest

inverted : (a b : Bool) (k h : AttrHead) → (let v : declared.AttributeItem = cond a End (cond b Malformed (listed.Attribute k)) in listed.Attribute h ≡ v) → (a ≡ false) × (b ≡ false) × (h ≡ k)
inverted a b k h e = grind (arith, common_steps)

inverted_end : (a b : Bool) (k : AttrHead) → (let v : declared.AttributeItem = cond a End (cond b Malformed (listed.Attribute k)) in End ≡ v) → a ≡ true
inverted_end a b k e = grind (arith, common_steps)

inverted_malformed : (a b : Bool) (k : AttrHead) → (let v : declared.AttributeItem = cond a End (cond b Malformed (listed.Attribute k)) in Malformed ≡ v) → (a ≡ false) × (b ≡ true)
inverted_malformed a b k e = grind (arith, common_steps)

-- the first attribute, and the others
pub record Goes (y : List ℕ) (h : AttrHead) : Type 0 where
  pub head : h ≡ attr_head_of y
  pub least : 8 ≤ h.len
  pub enough : least_len h.tag ≤ h.len
  pub inside : h.len ≤ length y
  pub scan : scan_of y ≡ attribute_then (attribute y) (scan_of (drop h.len y))
  pub all : attributes y ≡ option_map (λ others. attribute y ∷ others) (attributes (drop h.len y))

pub goes : (y : List ℕ) (h : AttrHead) → listed.Attribute h ≡ next_attribute y → Goes y h
goes y h e =
    let v = inverted (ends_list y) (is_malformed y) (attr_head_of y) h e in
    let len = attribute_len y v.1 in
    let n : (attr_head_of y).len ≡ h.len = ap (λ (k : AttrHead). k.len) (sym v.2) in
    record {
      head = v.2;
      least = omega (arith, len.head, n);
      enough = subst (λ (k : AttrHead). least_len k.tag ≤ k.len) (sym v.2) len.least;
      inside = omega (arith, len.inside, n);
      scan = scan-more y v.0 v.1 ∙ ap (λ k. attribute_then (attribute y) (scan_of (drop k y))) n;
      all = attributes_more y v.0 v.1 ∙ ap (λ k. option_map (λ others. attribute y ∷ others) (attributes (drop k y))) n;
    }

pub scan_ends : (y : List ℕ) → End ≡ next_attribute y → scan_of y ≡ at_end
scan_ends y e = scan-end y (inverted_end (ends_list y) (is_malformed y) (attr_head_of y) e)

pub scan_is_malformed : (y : List ℕ) → Malformed ≡ next_attribute y → scan_of y ≡ at_malformed
scan_is_malformed y e = let v = inverted_malformed (ends_list y) (is_malformed y) (attr_head_of y) e in scan-malformed y v.0 v.1

pub goes_end : (y : List ℕ) → End ≡ next_attribute y → attributes y ≡ Some []
goes_end y e = attributes_end y (inverted_end (ends_list y) (is_malformed y) (attr_head_of y) e)

pub goes_malformed : (y : List ℕ) → Malformed ≡ next_attribute y → attributes y ≡ None
goes_malformed y e = let v = inverted_malformed (ends_list y) (is_malformed y) (attr_head_of y) e in attributes_malformed y v.0 v.1

-- the first attribute's head, of a list
abbrev pub first_head : List Attribute → Option AttrHead
first_head all = option_map head_of_attribute (slice_get all 0)

-- well-formed attributes
pub record GoesOn (y : List ℕ) (h : AttrHead) (all : List Attribute) : Type 0 where
  pub first : all ≡ attribute y ∷ drop 1 all
  pub rest : attributes (drop h.len y) ≡ Some (drop 1 all)

pub goes_on : (y : List ℕ) (h : AttrHead) (all : List Attribute) → Goes y h → attributes y ≡ Some all → GoesOn y h all
goes_on y h all g e = grind (arith, common_steps)

pub goes_head : (y : List ℕ) (h : AttrHead) (all : List Attribute) → Goes y h → attributes y ≡ Some all → Some h ≡ first_head all
goes_head y h all g e = grind (arith, common_steps)

pub goes_none : (y : List ℕ) (all : List Attribute) → attributes y ≡ Some [] → attributes y ≡ Some all → all ≡ []
goes_none y all e f = let same : (let o : Option (List Attribute) = Some [] in o) ≡ Some all = sym e ∙ f in cc

-- ---- a walk over attributes

attribute_field_is : (h : Head) (x : List ℕ) → attribute_field h x ≡ slice_range x (name_end h) h.offset
attribute_field_is h x = grind (arith, common_steps)

some_is : {A : Type 0} (o : Option A) (other : A) → is_some o ≡ true → o ≡ Some (unwrap_or o other)
some_is o other e = grind (arith, common_steps)

-- the attributes are well formed, and lie between name and content
pub listed_all : (x : List ℕ) (c : Cell) → StandsIn x c → is_free c.head ≡ false
    → attributes (slice_range x (c.at + name_end c.head) (c.at + c.head.offset)) ≡ Some (cell_attributes (cell_in x c))
listed_all x c stands used =
    let s = standing x c stands in
    let k = standing_good x c s in
    let rest = drop c.at x in
    let whole = component_whole rest c.span s.entry (ap is_free (sym s.head) ∙ used) in
    let there : attribute_field (head_of rest) rest ≡ slice_range x (c.at + name_end c.head) (c.at + c.head.offset) =
    ap (λ (h : Head). attribute_field h rest) (sym s.head) ∙ attribute_field_is c.head rest ∙ range-drop x c.at (name_end c.head) c.head.offset in
    let here : attribute_field (head_of (cell_in x c)) (cell_in x c) ≡ slice_range x (c.at + name_end c.head) (c.at + c.head.offset) =
    ap (λ (h : Head). attribute_field h (cell_in x c)) (cell_head x c s k.positive) ∙ attribute_field_is c.head (cell_in x c)
    ∙ cell_part x c (name_end c.head) c.head.offset (omega (arith, k.fits)) in
    some_is (attributes (slice_range x (c.at + name_end c.head) (c.at + c.head.offset))) [] (ap (λ l. is_some (attributes l)) (sym there) ∙ whole.formed)
    ∙ ap (λ l. Some (unwrap_or (attributes l) [])) (sym here)

pub walk_all : (x : List ℕ) (c : Cell) → StandsIn x c → is_free c.head ≡ false → attributes_left x (record { cell = c; at = min (name_end c.head) c.head.offset }) ≡ Some (cell_attributes (cell_in x c))
walk_all x c stands used =
    let k = standing_good x c (standing x c stands) in
    let high = k.name_high used in
    ap (λ n. attributes (slice_range x (c.at + n) (c.at + c.head.offset))) {x = min (name_end c.head) c.head.offset} {y = name_end c.head} (omega (arith, high))
    ∙ listed_all x c stands used

-- a walk's result at a position, and its rest
abbrev pub GivesListed : List ℕ → Cell → ℕ → List Attribute → declared.AttributeItem → Type 0
GivesListed x k a all (listed.Attribute h) = (Some h ≡ first_head all) × (attributes_left x (record { cell = k; at = a + h.len }) ≡ Some (drop 1 all))
GivesListed x k a all End = (None ≡ first_head all) × (attributes_left x (record { cell = k; at = k.head.offset }) ≡ Some (drop 1 all))
GivesListed x k a all Malformed = ⊥

pub walk_step : (r : Range) (image : List ℕ) (k : Cell) (a p q : ℕ) (l : declared.AttributeItem) → LiesIn r image → k.at + k.head.offset ≤ r.size
    → p ≡ k.at + a → q ≡ k.at + k.head.offset → l ≡ next_attribute (slice_range (bytes_in r image) p q)
    → (all : List Attribute) → attributes_left (bytes_in r image) (record { cell = k; at = a }) ≡ Some all → GivesListed (bytes_in r image) k a all l
walk_step r image k a p q l lies room from to is all left = go l is
  where
    x : List ℕ
    x = bytes_in r image

    inside : q ≤ length x
    inside = omega (arith, to, room, length-region r image lies)

    here : attributes (slice_range x p q) ≡ Some all
    here = ap (λ n. attributes (slice_range x n q)) from ∙ ap (λ n. attributes (slice_range x (k.at + a) n)) to ∙ left

    none_left : attributes_left x (record { cell = k; at = k.head.offset }) ≡ Some []
    none_left = ap (λ n. attributes (take n (drop (k.at + k.head.offset) x))) {x = k.at + k.head.offset - (k.at + k.head.offset)} {y = 0} (omega arith) ∙ attributes_end [] refl

    go : (m : declared.AttributeItem) → m ≡ next_attribute (slice_range x p q) → GivesListed x k a all m
    go (listed.Attribute h) is =
        let g = goes (slice_range x p q) h is in
        let on = goes_on (slice_range x p q) h all g here in
        let fits : p + h.len ≤ q = omega (arith, g.least, g.inside, length-range x p q inside) in (
          goes_head (slice_range x p q) h all g here,
          ap (λ n. attributes (slice_range x n (k.at + k.head.offset))) {x = k.at + (a + h.len)} {y = p + h.len} (omega (arith, from))
              ∙ ap (λ n. attributes (slice_range x (p + h.len) n)) (sym to)
              ∙ ap (λ y. attributes y) (sym (range-after x p q h.len fits))
              ∙ on.rest,
        )
    go End is =
        let none : all ≡ [] = goes_none (slice_range x p q) all (goes_end (slice_range x p q) is) here in
        (ap first_head (sym none), none_left ∙ ap (λ (l : List Attribute). Some (drop 1 l)) (sym none))
    go Malformed is = let e : (let o : Option (List Attribute) = None in o) ≡ Some all = sym (goes_malformed (slice_range x p q) is) ∙ here in absurd cc

pub gives_none : (x : List ℕ) (k : Cell) (a : ℕ) (all : List Attribute) (l : declared.AttributeItem) → ((h : AttrHead) → l ≡ listed.Attribute h → ⊥) → GivesListed x k a all l
    → (None ≡ first_head all) × (attributes_left x (record { cell = k; at = k.head.offset }) ≡ Some (drop 1 all))
gives_none x k a all l other gives = grind (arith, common_steps)
