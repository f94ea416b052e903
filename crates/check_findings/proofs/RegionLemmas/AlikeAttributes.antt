-- The same attributes for coreboot and for commands.
use Rattle.std.proofs.lemmas.Grind.{common_steps}
use Rattle.std.proofs.Common.{◌≡◌, ℕ, zero, suc, pred, Bool, true, false, cond, List, [], ◌∷◌, ◌++◌, length, Some, None, refl, sym, ap, ◌∙◌, arith}
use Rattle.std.specs.Prelude.{filter, nat_lt, ◌||◌}
use Rattle.std.proofs.lemmas.List.Folds.{list_any-append}
use Rattle.std.proofs.lemmas.Bool.{false≢true}
use Rattle.std.proofs.lemmas.Bool.Decides.{nat_tests}
use Rattle.flash_format.specs.Entry.{Attribute, AttributeScan, at_end, at_malformed, attr_head_of, attribute, attribute_then, attributes, ends_list, has_bad_len, is_unused, scan_after}
use Rattle.check_findings.specs.Attributes.{begins_attribute, earlier_in, fault_after, is_used, walk_after, walked}
use Rattle.check_findings.proofs.RegionLemmas.SoundAttributes.{both_none, sound_attribute}

-- one more attribute behind others
unused_after : (before : List Attribute) (a : Attribute) (u n : Bool) → (earlier_in before).has_unused ≡ u → is_unused a.tag ≡ n → (earlier_in (before ++ a ∷ [])).has_unused ≡ (u || (n || false))
unused_after before a u n is unused = list_any-append (λ (b : Attribute). is_unused b.tag) before (a ∷ []) ∙ rw (is, unused) refl

-- behind an unused attribute none is used
none_used : (kind : ℕ) (before all : List Attribute) → fault_after kind before all ≡ None → (earlier_in before).has_unused ≡ true → filter is_used all ≡ []
unfolding fault_after
none_used kind before [] none behind = refl
none_used kind before (a ∷ others) none behind =
    let parts = both_none _ _ none in
    go (is_unused a.tag) refl (none_used kind (before ++ a ∷ []) others parts.1 (unused_after before a true _ behind refl)) (sound_attribute kind before a parts.0).listed
  where
    go : (n : Bool) → is_unused a.tag ≡ n → filter is_used others ≡ [] → (is_unused a.tag ≡ false → (earlier_in before).has_unused ≡ false) → filter is_used (a ∷ others) ≡ []
    go true is rest listed = rw is rest
    go false is rest listed = absurd (false≢true (sym (listed is) ∙ behind))

-- an attribute that commands list begins for coreboot too
starts : (x : List ℕ) → ends_list x ≡ false → has_bad_len (attr_head_of x) (length x) ≡ false → begins_attribute x ≡ true
starts x ends bad = grind (arith, nat_tests)

used_of : (x : List ℕ) (unused : Bool) → (nat_lt (length x) 8 || unused) ≡ false → unused ≡ false
used_of x true is = absurd (grind (arith, common_steps))
used_of x false is = refl

unused_of : (x : List ℕ) (unused : Bool) → (nat_lt (length x) 8 || unused) ≡ true → begins_attribute x ≡ true → unused ≡ true
unused_of x true is begins = refl
unused_of x false is begins = absurd (grind (arith, nat_tests))

alike : (kind : ℕ) (before : List Attribute) (skip : ℕ) (y : List ℕ) → fault_after kind before (walk_after skip y) ≡ None → (earlier_in before).has_unused ≡ false → (scan_after skip y).is_malformed ≡ false
    → filter is_used (walk_after skip y) ≡ (scan_after skip y).found
unfolding fault_after walk_after scan_after
alike kind before skip [] none first formed = refl
alike kind before (suc skip) (b ∷ rest) none first formed = alike kind before skip rest none first formed
alike kind before zero (b ∷ rest) none first formed = go (ends_list x) (has_bad_len (attr_head_of x) (length x)) (begins_attribute x) refl refl refl none formed (alike kind (before ++ attribute (b ∷ rest) ∷ []) (pred (attr_head_of (b ∷ rest)).len) rest)
  where
    x : List ℕ
    x = b ∷ rest

    a : Attribute
    a = attribute x

    others : List Attribute
    others = walk_after (pred (attr_head_of x).len) rest

    later : AttributeScan
    later = scan_after (pred (attr_head_of x).len) rest

    go : (ends bad begins : Bool) → ends_list x ≡ ends → has_bad_len (attr_head_of x) (length x) ≡ bad → begins_attribute x ≡ begins → fault_after kind before (cond begins (a ∷ others) []) ≡ None → (cond ends at_end (cond bad at_malformed (attribute_then a later))).is_malformed ≡ false
        → (fault_after kind (before ++ a ∷ []) others ≡ None → (earlier_in (before ++ a ∷ [])).has_unused ≡ false → later.is_malformed ≡ false → filter is_used others ≡ later.found)
        → filter is_used (cond begins (a ∷ others) []) ≡ (cond ends at_end (cond bad at_malformed (attribute_then a later))).found
    go true bad false e f g none formed more = refl
    go true bad true e f g none formed more =
        let unused = unused_of x (is_unused (attr_head_of x).tag) e g in
        rw unused (none_used kind (before ++ a ∷ []) others (both_none _ _ none).1 (unused_after before a false true first unused))
    go false true begins e f g none formed more = absurd (false≢true (sym formed))
    go false false false e f g none formed more = absurd (false≢true (sym g ∙ starts x e f))
    go false false true e f g none formed more =
        let used = used_of x (is_unused (attr_head_of x).tag) e in
        rw used (ap (λ (l : List Attribute). a ∷ l) (more (both_none _ _ none).1 (unused_after before a false false first used) formed))

formed_is : (malformed : Bool) (found all : List Attribute) → cond malformed None (Some found) ≡ Some all → (malformed ≡ false) × (found ≡ all)
formed_is true found all is = absurd cc
formed_is false found all is = (refl, cc)

pub read_alike : (kind : ℕ) (y : List ℕ) (all : List Attribute) → attributes y ≡ Some all → fault_after kind [] (walked y) ≡ None → filter is_used (walked y) ≡ all
read_alike kind y all is none =
    let formed = formed_is (scan_after 0 y).is_malformed (scan_after 0 y).found all is in
    alike kind [] 0 y none refl formed.0 ∙ formed.1
