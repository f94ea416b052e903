-- The steps of an attribute list.
use Rattle.std.proofs.Common.{◌≡◌, ℕ, zero, suc, pred, ◌≤◌, Bool, true, false, List, [], ◌∷◌, length, drop, cond, Some, None, refl, ap, ◌∙◌, arith}
use Rattle.std.specs.Option.{option_map}
use Rattle.std.proofs.lemmas.Bool.Decides.{nat_tests}
use Rattle.flash_format.proofs.Fronts.{drop-pred}
use Rattle.flash_format.specs.Entry.{AttributeScan, Attribute, all_formed, at_end, at_malformed, attr_head_of, attribute, attributes, ends_list, has_bad_len, least_len, attribute_then, scan_after, scan_of}

abbrev pub is_malformed : List ℕ → Bool
is_malformed x = has_bad_len (attr_head_of x) (length x)

-- the length of a valid attribute
pub record IsAttributeLen (x : List ℕ) (len : ℕ) : Type 0 where
  pub head : 8 ≤ len
  pub least : least_len (attr_head_of x).tag ≤ len
  pub inside : len ≤ length x

pub attribute_len : (x : List ℕ) → is_malformed x ≡ false → IsAttributeLen x (attr_head_of x).len
attribute_len x e = record { head = grind (arith, nat_tests); least = grind (arith, nat_tests); inside = grind (arith, nat_tests) }

-- the previous attribute's bytes don't count
pub scan_after-drop : (k : ℕ) (x : List ℕ) → scan_after k x ≡ scan_of (drop k x)
unfolding scan_after
scan_after-drop zero x = refl
scan_after-drop (suc k) [] = refl
scan_after-drop (suc k) (b ∷ x) = scan_after-drop k x

-- ---- the equations of a scan

pub scan-end : (x : List ℕ) → ends_list x ≡ true → scan_of x ≡ at_end
unfolding scan_after
scan-end [] e = refl
scan-end (b ∷ x) e = rw e refl

pub scan-malformed : (x : List ℕ) → ends_list x ≡ false → is_malformed x ≡ true → scan_of x ≡ at_malformed
unfolding scan_after
scan-malformed [] e f = absurd cc
scan-malformed (b ∷ x) e f = rw (e, f) refl

pub scan-more : (x : List ℕ) → ends_list x ≡ false → is_malformed x ≡ false → scan_of x ≡ attribute_then (attribute x) (scan_of (drop (attr_head_of x).len x))
unfolding scan_after
scan-more [] e f = absurd cc
scan-more (b ∷ x) e f =
    let len = (attr_head_of (b ∷ x)).len in
    let known = attribute_len (b ∷ x) f in
    let rest : scan_after (pred len) x ≡ scan_of (drop len (b ∷ x)) =
    scan_after-drop (pred len) x ∙ ap (λ (l : List ℕ). scan_of l) (drop-pred b x len (omega (arith, known.head))) in
    rw (e, f) (ap (λ (s : AttributeScan). attribute_then (attribute (b ∷ x)) s) rest)

-- ---- the equations of `attributes`

pub attributes_end : (x : List ℕ) → ends_list x ≡ true → attributes x ≡ Some []
attributes_end x e = ap (λ (s : AttributeScan). all_formed s) (scan-end x e)

pub attributes_malformed : (x : List ℕ) → ends_list x ≡ false → is_malformed x ≡ true → attributes x ≡ None
attributes_malformed x e f = ap (λ (s : AttributeScan). all_formed s) (scan-malformed x e f)

all_formed-more : (a : Attribute) (malformed : Bool) (found : List Attribute) → cond malformed None (Some (a ∷ found)) ≡ option_map (λ others. a ∷ others) (cond malformed None (Some found))
all_formed-more a true found = refl
all_formed-more a false found = refl

pub attributes_more : (x : List ℕ) → ends_list x ≡ false → is_malformed x ≡ false
    → attributes x ≡ option_map (λ others. attribute x ∷ others) (attributes (drop (attr_head_of x).len x))
attributes_more x e f =
    let later = scan_of (drop (attr_head_of x).len x) in
    ap (λ (s : AttributeScan). all_formed s) (scan-more x e f) ∙ all_formed-more (attribute x) later.is_malformed later.found
