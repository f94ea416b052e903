-- A walk over the attributes of a component.
use Rattle.std.proofs.lemmas.Grind.{common_steps}
use Rattle.std.proofs.Common.{◌≡◌, ℕ, zero, suc, pred, ◌+◌, ◌-◌, ◌<◌, ◌≤◌, Bool, true, false, cond, IsTrue, List, [], ◌∷◌, ◌++◌, length, drop, Option, Some, None, refl, sym, subst, ap, ◌∙◌, arith, le_refl, length-take}
use Rattle.std.specs.Prelude.{slice_range, IfOk, Result, Ok, Err, nat_le, nat_lt, is_some, ◌&&◌, ◌||◌, ◌==◌}
use Rattle.std.specs.Bool.{then_some}
use Rattle.std.specs.Option.{option_or}
use Rattle.std.proofs.lemmas.Bool.{eq-eqb, le-ltb, lt-leb}
use Rattle.std.proofs.lemmas.Bool.Decides.{nat_tests}
use Rattle.std.proofs.lemmas.List.Folds.{list_any-append}
use Rattle.flash_format.specs.declared.attribute.AttrHead.{AttrHead}
use Rattle.flash_format.specs.declared.head.Head.{Head}
use Rattle.flash_format.specs.Head.{be32}
use Rattle.flash_format.specs.Entry.{Attribute, attr_head_of, attribute, attribute_field, is_unused, name_end, HASH}
use Rattle.flash_format.proofs.Fronts.{attr_head_of-take, drop-pred}
use Rattle.flash_device.specs.Pages.{Pages}
use Rattle.flash_device.specs.Regions.{Range, bytes_in}
use Rattle.cbfs_walk.specs.Cells.{IsComponentIn, attributes_start, cell_in, content_start}
use Rattle.cbfs_walk.specs.Walks.{Passes, StandsIn}
use Rattle.cbfs_walk.specs.declared.cell.Cell.{Cell}
use Rattle.flash_device.proofs.DeviceLemmas.{honest_still}
use Rattle.cbfs_walk.proofs.AttributeScans.{Scanning, list_at, told_before}
use Rattle.cbfs_walk.proofs.Checks.{checks_give, content_fits}
use Rattle.cbfs_walk.proofs.CutLaws.{standing, standing_good, cell_head, cell_part}
use Rattle.cbfs_walk.proofs.Parts.{length-range, range-after, range-inner, range-take}
use Rattle.cbfs_walk.proofs.ReadSequences.{Passes-then}
use Rattle.check_findings.specs.Attributes.{STAGE, attribute_at, begins_attribute, cell_fault, earlier_in, entry_fault, fault_after, fault_of, first_head, hash_fault, missing_fault, numbered_fault, stage_fault, walk_after, walked}
use Rattle.check_findings.specs.declared.region.attributes.EarlierAttributes.{EarlierAttributes}
use Rattle.check_findings.specs.declared.region.finding.AttributeFault.{AttributeFault}
use Rattle.check_findings.specs.declared.region.finding.AttributeFault.TheVariants as faults

-- ---- the equations of a walk

pub walk_after-drop : (k : ℕ) (x : List ℕ) → walk_after k x ≡ walked (drop k x)
unfolding walk_after
walk_after-drop zero x = refl
walk_after-drop (suc k) [] = refl
walk_after-drop (suc k) (b ∷ x) = walk_after-drop k x

pub record Begins (x : List ℕ) : Type 0 where
  pub room : 8 ≤ length x
  pub least : 8 ≤ (attr_head_of x).len
  pub inside : (attr_head_of x).len ≤ length x

pub begins : (x : List ℕ) → begins_attribute x ≡ true → Begins x
begins x is = record { room = grind (arith, nat_tests); least = grind (arith, nat_tests); inside = grind (arith, nat_tests) }

pub walked-none : (x : List ℕ) → begins_attribute x ≡ false → walked x ≡ []
unfolding walk_after
walked-none [] is = refl
walked-none (b ∷ x) is = rw is refl

pub walked-more : (x : List ℕ) → begins_attribute x ≡ true → walked x ≡ attribute x ∷ walked (drop (attr_head_of x).len x)
unfolding walk_after
walked-more [] is = absurd cc
walked-more (b ∷ x) is =
    let len = (attr_head_of (b ∷ x)).len in
    let known = begins (b ∷ x) is in
    let rest : walk_after (pred len) x ≡ walked (drop len (b ∷ x)) =
    walk_after-drop (pred len) x ∙ ap (λ (l : List ℕ). walked l) (drop-pred b x len (omega (arith, known.least))) in
    rw is (ap (λ (l : List Attribute). attribute (b ∷ x) ∷ l) rest)

-- ---- the head at a position

short_list : (y : List ℕ) → length y < 8 → None ≡ first_head y
short_list y short = rw (lt-leb 8 (length y) short) refl

pub first_none : (x : List ℕ) (at end : ℕ) → end - at < 8 → None ≡ first_head (slice_range x at end)
first_none x at end short = short_list (slice_range x at end) (omega (arith, length-take (end - at) (drop at x)))

pub first_by : (x : List ℕ) (at end : ℕ) (h : AttrHead) (inside : Bool) → at + 8 ≤ end → end ≤ length x → h ≡ attr_head_of (slice_range x at (at + 8))
    → inside ≡ (nat_le 8 h.len && nat_le h.len (end - at)) → then_some inside h ≡ first_head (slice_range x at end)
first_by x at end h inside room fits head is = grind (arith, common_steps, attr_head_of-take, le-ltb, length-range, range-take)

-- ---- the loop

-- the first fault of the rest, after the attributes before it, is that of the list
pub record Asks (kind : ℕ) (earlier : EarlierAttributes) (list rest : List ℕ) : Type 0 where
  pub before : List Attribute
  pub known : earlier ≡ earlier_in before
  pub same : fault_after kind before (walked rest) ≡ fault_after kind [] (walked list)

pub asks_start : (kind : ℕ) (list : List ℕ) → Asks kind (record { has_unused = false; has_digest = false; has_stage = false }) list list
asks_start kind list = record { before = []; known = refl; same = refl }

or_one : (u p : Bool) → (u || (p || false)) ≡ (u || p)
or_one true p = refl
or_one false true = refl
or_one false false = refl

-- what attributes and one more contain
pub earlier_with : (e : EarlierAttributes) (before : List Attribute) (a : Attribute) (tag : ℕ) → e ≡ earlier_in before → a.tag ≡ tag
    → (let n : EarlierAttributes = record { has_unused = e.has_unused || is_unused tag; has_digest = e.has_digest || tag == HASH; has_stage = e.has_stage || tag == STAGE } in n) ≡ earlier_in (before ++ a ∷ [])
earlier_with e before a tag known same =
    let unused = list_any-append (λ (b : Attribute). is_unused b.tag) before (a ∷ []) ∙ or_one _ (is_unused a.tag) in
    let digest = list_any-append (λ (b : Attribute). b.tag == HASH) before (a ∷ []) ∙ or_one _ (a.tag == HASH) in
    let stage = list_any-append (λ (b : Attribute). b.tag == STAGE) before (a ∷ []) ∙ or_one _ (a.tag == STAGE) in
    rw (known, ← same, unused, digest, stage) refl

-- a list goes on by its first head
pub record GoesOn (x : List ℕ) (h : AttrHead) : Type 0 where
  pub begins : begins_attribute x ≡ true
  pub head : attr_head_of x ≡ h

goes_by : (b : Bool) (k h : AttrHead) → Some h ≡ then_some b k → (b ≡ true) × (k ≡ h)
goes_by true k h is = (refl, cc)
goes_by false k h is = absurd cc

pub goes_on : (x : List ℕ) (h : AttrHead) → Some h ≡ first_head x → GoesOn x h
goes_on x h is = let v = goes_by (begins_attribute x) (attr_head_of x) h is in record { begins = v.0; head = v.1 }

ends_by : (b : Bool) (k : AttrHead) → None ≡ then_some b k → b ≡ false
ends_by true k is = absurd cc
ends_by false k is = refl

-- the end of the list
pub asks_end : (kind : ℕ) (earlier : EarlierAttributes) (list rest : List ℕ) → Asks kind earlier list rest → None ≡ first_head rest → missing_fault kind earlier ≡ fault_after kind [] (walked list)
unfolding fault_after
asks_end kind earlier list rest asks none =
    let is = ends_by (begins_attribute rest) (attr_head_of rest) none in
    ap (missing_fault kind) asks.known ∙ sym (ap (fault_after kind asks.before) (walked-none rest is)) ∙ asks.same

-- the fault of the rest begins with that of its first attribute
asks_step : (kind : ℕ) (earlier : EarlierAttributes) (list rest : List ℕ) (h : AttrHead) (asks : Asks kind earlier list rest) → GoesOn rest h
    → option_or (fault_of kind earlier (attribute rest)) (fault_after kind (asks.before ++ attribute rest ∷ []) (walked (drop h.len rest))) ≡ fault_after kind [] (walked list)
unfolding fault_after
asks_step kind earlier list rest h asks on =
    let later = λ (n : ℕ). fault_after kind (asks.before ++ attribute rest ∷ []) (walked (drop n rest)) in
    ap (λ (e : EarlierAttributes). option_or (fault_of kind e (attribute rest)) (later h.len)) asks.known
    ∙ ap (λ (k : AttrHead). option_or (fault_of kind (earlier_in asks.before) (attribute rest)) (later k.len)) (sym on.head)
    ∙ sym (ap (fault_after kind asks.before) (walked-more rest on.begins))
    ∙ asks.same

-- the first attribute has a fault
pub asks_here : (kind : ℕ) (earlier : EarlierAttributes) (list rest : List ℕ) (h : AttrHead) (found : Option AttributeFault) → Asks kind earlier list rest → Some h ≡ first_head rest
    → found ≡ fault_of kind earlier (attribute rest) → is_some found ≡ true → found ≡ fault_after kind [] (walked list)
asks_here kind earlier list rest h found asks told is some = go found some ∙ ap (λ (o : Option AttributeFault). option_or o later) is ∙ asks_step kind earlier list rest h asks (goes_on rest h told)
  where
    later : Option AttributeFault
    later = fault_after kind (asks.before ++ attribute rest ∷ []) (walked (drop h.len rest))

    go : (o : Option AttributeFault) → is_some o ≡ true → o ≡ option_or o later
    go None some = absurd cc
    go (Some fault) some = refl

-- the first attribute has none
pub asks_more : (kind : ℕ) (earlier next : EarlierAttributes) (list rest : List ℕ) (h : AttrHead) (found : Option AttributeFault) → Asks kind earlier list rest → Some h ≡ first_head rest
    → found ≡ fault_of kind earlier (attribute rest) → is_some found ≡ false
    → ((before : List Attribute) (a : Attribute) → earlier ≡ earlier_in before → a.tag ≡ h.tag → next ≡ earlier_in (before ++ a ∷ [])) → Asks kind next list (drop h.len rest)
asks_more kind earlier next list rest h found asks told is none step =
    let on = goes_on rest h told in
    let first = attribute rest in
    record {
      before = asks.before ++ first ∷ [];
      known = step asks.before first asks.known (ap (λ (k : AttrHead). k.tag) on.head);
      same = go found none ∙ ap (λ (o : Option AttributeFault). option_or o later) is ∙ asks_step kind earlier list rest h asks on;
    }
  where
    later : Option AttributeFault
    later = fault_after kind (asks.before ++ attribute rest ∷ []) (walked (drop h.len rest))

    go : (o : Option AttributeFault) → is_some o ≡ false → later ≡ option_or o later
    go None none = refl
    go (Some fault) none = absurd cc

-- an attribute in the region, as in the rest of the list
pub read_attribute : (x : List ℕ) (at end : ℕ) (h : AttrHead) → at + h.len ≤ end → Some h ≡ first_head (slice_range x at end) → attribute_at x at h ≡ attribute (slice_range x at end)
read_attribute x at end h fits told =
    let on = goes_on (slice_range x at end) h told in
    ap (λ (l : List ℕ). let a : Attribute = record { tag = h.tag; contents = l } in a) (sym (range-inner x at end 8 h.len (omega (arith, fits))))
    ∙ ap (λ (k : AttrHead). let a : Attribute = record { tag = k.tag; contents = slice_range (slice_range x at end) 8 k.len } in a) (sym on.head)

-- ---- values of an attribute

-- a number of four bytes in the contents of an attribute
pub number_in : (x : List ℕ) (at len i : ℕ) → i + 12 ≤ len → be32 i (slice_range x (at + 8) (at + len)) ≡ be32 (at + (8 + i)) x
number_in x at len i fits =
    let there : slice_range (slice_range x (at + 8) (at + len)) i (i + 4) ≡ slice_range x (at + (8 + i)) (at + (8 + i) + 4) =
    range-inner x (at + 8) (at + len) i (i + 4) (omega (arith, fits))
    ∙ ap (λ k. slice_range x k (at + 8 + (i + 4))) {x = at + 8 + i} {y = at + (8 + i)} (omega arith)
    ∙ ap (slice_range x (at + (8 + i))) {x = at + 8 + (i + 4)} {y = at + (8 + i) + 4} (omega arith) in
    rw there refl

pub read_hash : (x : List ℕ) (at len number : ℕ) (has : Bool) → at + len ≤ length x → 12 ≤ len → number ≡ be32 (at + 8) x → numbered_fault has (len - 8) number ≡ hash_fault has (slice_range x (at + 8) (at + len))
read_hash x at len number has fits least is =
    let contents = slice_range x (at + 8) (at + len) in
    let size : length contents ≡ len - 8 = omega (arith, length-range x (at + 8) (at + len) fits) in
    let long : nat_lt (length contents) 4 ≡ false = le-ltb (length contents) 4 (omega (arith, size, least)) in
    let first : number ≡ be32 0 contents = is ∙ sym (number_in x at len 0 (omega (arith, least))) in
    ap (numbered_fault has (len - 8)) first
    ∙ ap (λ n. numbered_fault has n (be32 0 contents)) (sym size)
    ∙ sym (ap (λ b. cond b (Some faults.DigestLength) (numbered_fault has (length contents) (be32 0 contents))) long)

pub read_stage : (x : List ℕ) (at len entry memory : ℕ) → at + len ≤ length x → len ≡ 24 → entry ≡ be32 (at + 16) x → memory ≡ be32 (at + 20) x → entry_fault entry memory ≡ stage_fault (slice_range x (at + 8) (at + len))
read_stage x at len entry memory fits is of_entry of_memory =
    let contents = slice_range x (at + 8) (at + len) in
    let size : length contents ≡ 16 = omega (arith, length-range x (at + 8) (at + len) fits, is) in
    let whole : (length contents == 16) ≡ true = eq-eqb (length contents) 16 size in
    ap (λ n. entry_fault n memory) (of_entry ∙ sym (number_in x at len 8 (omega (arith, is))))
    ∙ ap (entry_fault (be32 8 contents)) (of_memory ∙ sym (number_in x at len 12 (omega (arith, is))))
    ∙ sym (ap (λ b. cond b (entry_fault (be32 8 contents) (be32 12 contents)) (Some faults.NoStage)) whole)

-- ---- the loop over a region

module _ {F : Type 0} {r : Range} {kind from end at : ℕ} {earlier : EarlierAttributes} {old now : Pages F}
    (s : Scanning r from end at old now (Asks kind earlier (list_at r old.device.content from end) (list_at r old.device.content at end))) where
  pub asked_end : (IsTrue now.device.honest → None ≡ first_head (list_at r now.device.content at end)) → IsTrue old.device.honest → missing_fault kind earlier ≡ fault_after kind [] (walked (list_at r old.device.content from end))
  asked_end none k = asks_end kind earlier _ _ (s.asked k) (told_before s (λ image. None ≡ first_head (list_at r image at end)) none k)

  module _ (h : AttrHead) (found : Option AttributeFault) (mid : Pages F) (fits : at + h.len ≤ end) (passes : Passes r at at 0 now mid)
      (head : IsTrue now.device.honest → Some h ≡ first_head (list_at r now.device.content at end))
      (value : IsTrue mid.device.honest → found ≡ fault_of kind earlier (attribute_at (bytes_in r mid.device.content) at h)) where
    told_head : IsTrue old.device.honest → Some h ≡ first_head (list_at r old.device.content at end)
    told_head = told_before s (λ image. Some h ≡ first_head (list_at r image at end)) head

    told_fault : IsTrue old.device.honest → found ≡ fault_of kind earlier (attribute (list_at r old.device.content at end))
    told_fault k =
        let still = honest_still s.passed.read.device.calls.same_honesty k in
        let same : mid.device.content ≡ old.device.content = passes.read.device.unchanged still ∙ s.passed.read.device.unchanged k in
        subst (λ (l : List ℕ). found ≡ fault_of kind earlier (attribute_at (bytes_in r l) at h)) same (value (honest_still passes.read.device.calls.same_honesty still))
        ∙ ap (fault_of kind earlier) (read_attribute (bytes_in r old.device.content) at end h fits (told_head k))

    -- this attribute has the first fault
    pub asked_fault : is_some found ≡ true → IsTrue old.device.honest → found ≡ fault_after kind [] (walked (list_at r old.device.content from end))
    asked_fault some k = asks_here kind earlier _ _ h found (s.asked k) (told_head k) (told_fault k) some

    -- it has none
    pub asked_next : (next : EarlierAttributes) (n : ℕ) (new : Pages F) → n ≡ h.len → Passes r at (at + h.len) 0 mid new → is_some found ≡ false
        → ((before : List Attribute) (a : Attribute) → earlier ≡ earlier_in before → a.tag ≡ h.tag → next ≡ earlier_in (before ++ a ∷ []))
        → Scanning r from end (at + n) old new (Asks kind next (list_at r old.device.content from end) (list_at r old.device.content (at + n) end))
    asked_next next n new e reads none step = record {
      low = omega (arith, s.low);
      high = omega (arith, fits, e);
      passed = Passes-then s.passed (Passes-then passes reads (le_refl at) (le_refl at) (le_refl _)) (le_refl from) (le_refl at) (omega (arith, e));
      asked = λ k.
          let x = bytes_in r old.device.content in
          let more = asks_more kind earlier next (slice_range x from end) (slice_range x at end) h found (s.asked k) (told_head k) (told_fault k) none step in
          subst (λ (l : List ℕ). Asks kind next (slice_range x from end) l) (range-after x at end h.len fits ∙ ap (λ m. slice_range x (at + m) end) (sym e)) more;
    }

-- ---- a component

field_is : (h : Head) (x : List ℕ) → attribute_field h x ≡ slice_range x (name_end h) h.offset
field_is h x = grind (arith, common_steps)

-- the attributes of a cell lie in the region between its name and its content
pub cell_list : (x : List ℕ) (c : Cell) (from end : ℕ) → from ≡ attributes_start c → end ≡ content_start c → StandsIn x c → fault_after c.head.kind [] (walked (slice_range x from end)) ≡ cell_fault (cell_in x c)
cell_list x c from end begins ends stands =
    let s = standing x c stands in
    let k = standing_good x c s in
    let head = cell_head x c s k.positive in
    let here : attribute_field c.head (cell_in x c) ≡ slice_range x (attributes_start c) (content_start c) =
    field_is c.head (cell_in x c) ∙ cell_part x c (name_end c.head) c.head.offset (omega (arith, k.fits)) in
    ap (λ n. fault_after c.head.kind [] (walked (slice_range x n end))) begins
    ∙ ap (λ n. fault_after c.head.kind [] (walked (slice_range x (attributes_start c) n))) ends
    ∙ ap (λ l. fault_after c.head.kind [] (walked l)) (sym here)
    ∙ ap (λ (h : Head). fault_after h.kind [] (walked (attribute_field h (cell_in x c)))) (sym head)

pub record LiesBetween (size : ℕ) (c : Cell) : Type 0 where
  pub order : name_end c.head ≤ c.head.offset
  pub inside : c.at + c.head.offset ≤ size

pub lies_between : (size : ℕ) (c : Cell) → IsComponentIn size c → LiesBetween size c
lies_between size c is =
    let k = checks_give (size - c.at) c.head c.span is.checks in
    record { order = k.name_high is.used; inside = omega (arith, (content_fits size c is.checks).in_region) }

pub fault_to : {E : Type 0} (result : Result (Option AttributeFault) E) (v w : Option AttributeFault) → v ≡ w → IfOk result (λ x. x ≡ v) → IfOk result (λ x. x ≡ w)
fault_to (Ok x) v w same is = is ∙ same
fault_to (Err fault) v w same is = tt
