-- A scan of attributes.
use Rattle.std.proofs.Common.{◌≡◌, ℕ, ◌+◌, ◌≤◌, Bool, true, false, cond, IsTrue, List, [], ◌∷◌, drop, Option, Some, None, refl, sym, subst, ap, ◌∙◌, arith, eqb, le_refl}
use Rattle.std.specs.Prelude.{slice_range, is_some}
use Rattle.std.specs.List.{find}
use Rattle.std.specs.Option.{option_map}
use Rattle.byteorder.specs.Endian.{big_number}
use Rattle.flash_format.specs.declared.attribute.AttrHead.{AttrHead}
use Rattle.flash_format.specs.Head.{be32}
use Rattle.flash_format.specs.Entry.{AttributeScan, Attribute, attribute, attributes, data_of, least_len, scan_of, COMPRESSION}
use Rattle.flash_format.specs.Components.{cell_attributes}
use Rattle.flash_device.specs.Pages.{Pages}
use Rattle.flash_device.specs.Regions.{Range, LiesIn, LiesOn, bytes_in}
use Rattle.cbfs_walk.specs.Walks.{Passes, StandsIn}
use Rattle.cbfs_walk.specs.Cells.{attributes_start, content_start, IsComponentIn, cell_in}
use Rattle.cbfs_walk.specs.AttrWalks.{IsAttrIn, next_attribute, attributes_in}
use Rattle.cbfs_walk.specs.declared.cell.Cell.{Cell}
use Rattle.cbfs_walk.specs.declared.attribute_walk.AttributeItem as declared
use Rattle.cbfs_walk.specs.declared.attribute_walk.AttributeItem.TheVariants as listed
use Rattle.flash_device.proofs.DeviceLemmas.{honest_still, LiesOn-calls}
use Rattle.cbfs_walk.proofs.ReadSequences.{Passes-none, Passes-then}
use Rattle.cbfs_walk.proofs.Parts.{range-inner, range-after}
use Rattle.cbfs_walk.proofs.AttributeLists.{goes, goes_end, goes_malformed, listed_all, scan_ends, scan_is_malformed}

-- a scan up to a position, with its remaining result
pub record Scanning {F : Type 0} (r : Range) (from end at : ℕ) (old now : Pages F) (Asked : Type 0) : Type 0 where
  pub low : from ≤ at
  pub high : at ≤ end
  pub passed : Passes r from at 0 old now
  pub asked : IsTrue old.device.honest → Asked

pub scanning_start : {F : Type 0} (r : Range) (from end : ℕ) (old : Pages F) (Asked : Type 0) → from ≤ end → (IsTrue old.device.honest → Asked) → Scanning r from end from old old Asked
scanning_start r from end old Asked le asked = record { low = le_refl from; high = le; passed = Passes-none r from old; asked = asked }

module _ {F : Type 0} {r : Range} {from end at : ℕ} {old now : Pages F} {Asked : Type 0} (s : Scanning r from end at old now Asked) where
  -- reads leave the content unchanged
  pub told_before : (P : List ℕ → Type 0) → (IsTrue now.device.honest → P now.device.content) → IsTrue old.device.honest → P old.device.content
  told_before P told k = subst P (s.passed.read.device.unchanged k) (told (honest_still s.passed.read.device.calls.same_honesty k))

  pub lies_still : LiesOn r old.device → LiesOn r now.device
  lies_still lies = LiesOn-calls s.passed.read.device.calls lies

  -- a further read
  pub scanning_more : (n : ℕ) (new : Pages F) (After : Type 0) → at + n ≤ end → Passes r at at 0 now new → (IsTrue old.device.honest → Asked → After) → Scanning r from end (at + n) old new After
  scanning_more n new After fits step next = record {
    low = omega (arith, s.low);
    high = fits;
    passed = Passes-then s.passed step (le_refl from) (le_refl at) (omega arith);
    asked = λ k. next k (s.asked k);
  }

  -- the last read
  pub scanned : {new : Pages F} {refused : ℕ} → Passes r at at refused now new → Passes r from end refused old new
  scanned read = Passes-then s.passed read (le_refl from) (le_refl at) s.high

-- the list between two positions
abbrev pub list_at : Range → List ℕ → ℕ → ℕ → List ℕ
list_at r image at end = slice_range (bytes_in r image) at end

-- the result of a list is the result of its rest
abbrev pub AsksRest : {A : Type 0} → (List ℕ → A) → Range → List ℕ → ℕ → ℕ → ℕ → Type 0
AsksRest ask r image from end at = ask (list_at r image at end) ≡ ask (list_at r image from end)

module _ {F A : Type 0} (ask : List ℕ → A) (r : Range) (from end at : ℕ) (old now : Pages F) (l : declared.AttributeItem)
    (s : Scanning r from end at old now (AsksRest ask r old.device.content from end at))
    (told : IsTrue now.device.honest → l ≡ next_attribute (list_at r now.device.content at end)) where
  told_there : IsTrue old.device.honest → l ≡ next_attribute (list_at r old.device.content at end)
  told_there = told_before s (λ image. l ≡ next_attribute (list_at r image at end)) told

  -- the attribute gives the result
  pub asked_here : (v : List ℕ → A) → ((x : List ℕ) → l ≡ next_attribute (slice_range x at end) → v x ≡ ask (slice_range x at end)) → IsTrue old.device.honest → v (bytes_in r old.device.content) ≡ ask (list_at r old.device.content from end)
  asked_here v here k = here (bytes_in r old.device.content) (told_there k) ∙ s.asked k

  -- the attribute is skipped
  pub asked_more : (h : AttrHead) (n : ℕ) (new : Pages F) → n ≡ h.len → IsAttrIn at end h → Passes r at at 0 now new → ((y : List ℕ) → l ≡ next_attribute y → ask y ≡ ask (drop h.len y))
      → Scanning r from end (at + n) old new (AsksRest ask r old.device.content from end (at + n))
  asked_more h n new e is read by = scanning_more s n new _ (omega (arith, is.inside, e)) read (λ k before.
      let list = list_at r old.device.content at end in
      let there : drop h.len list ≡ list_at r old.device.content (at + n) end =
      range-after (bytes_in r old.device.content) at end h.len (omega (arith, is.inside)) ∙ ap (λ k. slice_range (bytes_in r old.device.content) (at + k) end) (sym e) in
      ap ask (sym there) ∙ sym (by list (told_there k)) ∙ before)

-- ---- well-formed attributes

abbrev pub are_formed : List ℕ → Bool
are_formed y = is_some (attributes y)

pub formed_more : (h : AttrHead) (y : List ℕ) → listed.Attribute h ≡ next_attribute y → are_formed y ≡ are_formed (drop h.len y)
formed_more h y told = ap (λ (o : Option (List Attribute)). is_some o) (goes y h told).all ∙ some_after (attribute y) (attributes (drop h.len y))
  where
    some_after : (a : Attribute) (o : Option (List Attribute)) → is_some (option_map (λ others. a ∷ others) o) ≡ is_some o
    some_after a None = refl
    some_after a (Some others) = refl

pub formed_end : (y : List ℕ) → listed.End ≡ next_attribute y → true ≡ are_formed y
formed_end y told = sym (ap (λ (o : Option (List Attribute)). is_some o) (goes_end y told))

pub formed_malformed : (y : List ℕ) → listed.Malformed ≡ next_attribute y → false ≡ are_formed y
formed_malformed y told = sym (ap (λ (o : Option (List Attribute)). is_some o) (goes_malformed y told))

-- ---- the first attribute with a tag

-- the attributes of a list, up to the first malformed one
abbrev pub found_in : List ℕ → List Attribute
found_in y = (scan_of y).found

-- by what a list begins with
found_with : declared.AttributeItem → List ℕ → List Attribute
found_with (listed.Attribute h) y = attribute y ∷ found_in (drop h.len y)
found_with l y = []

found_by : (l : declared.AttributeItem) (y : List ℕ) → l ≡ next_attribute y → found_in y ≡ found_with l y
unfolding found_with
found_by (listed.Attribute h) y told = ap (λ (s : AttributeScan). s.found) (goes y h told).scan
found_by listed.End y told = ap (λ (s : AttributeScan). s.found) (scan_ends y told)
found_by listed.Malformed y told = ap (λ (s : AttributeScan). s.found) (scan_is_malformed y told)

-- the data of an attribute at a position
abbrev pub data_at : List ℕ → ℕ × AttrHead → List ℕ
data_at x found = slice_range x (found.0 + 8) (found.0 + found.1.len)

-- the data of the first attribute with the tag
abbrev pub data_with : ℕ → List ℕ → Option (List ℕ)
data_with tag y = data_of tag (found_in y)

first_by : (tag : ℕ) (h : AttrHead) (y : List ℕ) (b : Bool) → eqb h.tag tag ≡ b → listed.Attribute h ≡ next_attribute y
    → data_with tag y ≡ option_map (λ (a : Attribute). a.contents) (cond b (Some (attribute y)) (find (λ (a : Attribute). eqb a.tag tag) (found_in (drop h.len y))))
unfolding found_with
first_by tag h y b e told =
    ap (data_of tag) (found_by (listed.Attribute h) y told)
    ∙ ap (λ t. option_map (λ (a : Attribute). a.contents) (cond t (Some (attribute y)) (find (λ (a : Attribute). eqb a.tag tag) (found_in (drop h.len y))))) (ap (λ (k : AttrHead). eqb k.tag tag) (sym (goes y h told).head) ∙ e)

pub first_more : (tag : ℕ) (h : AttrHead) (y : List ℕ) → eqb h.tag tag ≡ false → listed.Attribute h ≡ next_attribute y → data_with tag y ≡ data_with tag (drop h.len y)
first_more tag h y other told = first_by tag h y false other told

pub first_here : (tag at end : ℕ) (h : AttrHead) (x : List ℕ) → at + h.len ≤ end → eqb h.tag tag ≡ true → listed.Attribute h ≡ next_attribute (slice_range x at end)
    → Some (data_at x (at, h)) ≡ data_with tag (slice_range x at end)
first_here tag at end h x fits this told =
    let y = slice_range x at end in
    sym (first_by tag h y true this told ∙ ap Some (ap (λ (k : AttrHead). slice_range y 8 k.len) (sym (goes y h told).head) ∙ range-inner x at end 8 h.len (omega (arith, fits))))

pub first_none : (tag : ℕ) (l : declared.AttributeItem) (y : List ℕ) → ((h : AttrHead) → l ≡ listed.Attribute h → ⊥) → l ≡ next_attribute y → None ≡ data_with tag y
unfolding found_with
first_none tag (listed.Attribute h) y other told = absurd (other h refl)
first_none tag listed.End y other told = ap (data_of tag) (sym (found_by listed.End y told))
first_none tag listed.Malformed y other told = ap (data_of tag) (sym (found_by listed.Malformed y told))

pub first_is : (x : List ℕ) (tag : ℕ) (c : Cell) (from end : ℕ) (told : Option (List ℕ)) → from ≡ attributes_start c → end ≡ content_start c → told ≡ data_with tag (slice_range x from end) → told ≡ data_of tag (attributes_in x c)
first_is x tag c from end told begins ends is =
    is
    ∙ ap (λ n. data_with tag (slice_range x n end)) begins
    ∙ ap (λ n. data_with tag (slice_range x (attributes_start c) n)) ends

-- ---- the attributes of a component in the region

found-all : (malformed : Bool) (found all : List Attribute) → cond malformed None (Some found) ≡ Some all → found ≡ all
found-all true found all e = absurd cc
found-all false found all e = cc

pub attributes_found : (r : Range) (image : List ℕ) (c : Cell) → LiesIn r image → IsComponentIn r.size c → StandsIn (bytes_in r image) c → attributes_in (bytes_in r image) c ≡ cell_attributes (cell_in (bytes_in r image) c)
attributes_found r image c lies is stands = found-all _ _ _ (listed_all (bytes_in r image) c stands is.used)

-- ---- the value of the first compression attribute

compression_len : (h : AttrHead) → h.tag ≡ COMPRESSION → least_len h.tag ≡ 16
compression_len h e = rw e refl

pub value_is : (x : List ℕ) (c : Cell) (found : ℕ × AttrHead) → (found.1.tag ≡ COMPRESSION) × IsAttrIn found.0 (content_start c) found.1 → be32 (found.0 + 8) x ≡ be32 0 (data_at x found)
value_is x c found is =
    let long : 16 ≤ found.1.len = omega (arith, is.1.least, compression_len found.1 is.0) in
    sym (ap (big_number 4) (
    range-inner x (found.0 + 8) (found.0 + found.1.len) 0 4 (omega (arith, long))
    ∙ ap (λ k. slice_range x k (found.0 + 8 + 4)) {x = found.0 + 8 + 0} {y = found.0 + 8} (omega arith)
    ))
