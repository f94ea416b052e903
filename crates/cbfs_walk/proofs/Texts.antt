-- Text before its first NUL.
use Rattle.std.proofs.lemmas.Grind.{common_steps}
use Rattle.std.proofs.Common.{◌≡◌, ℕ, zero, suc, ◌+◌, ◌<◌, ◌≤◌, min, Bool, true, false, cond, not, ◌||◌, List, [], ◌∷◌, length, take, sym, ap, arith, length-take}
use Rattle.std.specs.List.{list_any, before_first, position_or_len}
use Rattle.std.specs.Str.{bytes_eq}
use Rattle.std.proofs.lemmas.List.{take-take}
use Rattle.std.proofs.lemmas.List.Folds.{length-prefix_len}
use Rattle.std.proofs.lemmas.List.Sums.{prefix_len-le-length}
use Rattle.std.proofs.lemmas.Bool.{cases_lt, false_from_ne_true}
use Rattle.std.proofs.lemmas.Slice.Eq.{bytes_eq-Decides}
use Rattle.flash_format.specs.Entry.{is_nul}

-- the text before a NUL is shorter than all bytes
any_within : (x : List ℕ) → list_any is_nul x ≡ true → position_or_len is_nul x < length x
any_within [] e = absurd cc
any_within (b ∷ x) e = go (is_nul b) (any_within x) e
  where
    go : (nul : Bool) → (list_any is_nul x ≡ true → position_or_len is_nul x < length x) → (nul || list_any is_nul x) ≡ true → cond (not nul) (1 + position_or_len is_nul x) 0 < suc (length x)
    go true later e = omega arith
    go false later e = let lt : position_or_len is_nul x < length x = later e in omega arith

len_prefix : (k : ℕ) (x : List ℕ) → position_or_len is_nul (take k x) ≡ min (position_or_len is_nul x) k
len_prefix zero x = omega arith
len_prefix (suc k) [] = omega arith
len_prefix (suc k) (b ∷ x) = go (is_nul b) (len_prefix k x)
  where
    go : (nul : Bool) → position_or_len is_nul (take k x) ≡ min (position_or_len is_nul x) k
        → cond (not nul) (1 + position_or_len is_nul (take k x)) 0 ≡ min (cond (not nul) (1 + position_or_len is_nul x) 0) (suc k)
    go true e = omega arith
    go false e = omega arith

pub text_len : (x : List ℕ) → length (before_first is_nul x) ≡ position_or_len is_nul x
text_len x = length-prefix_len (λ b. not (is_nul b)) x

pub text_most : (x : List ℕ) → position_or_len is_nul x ≤ length x
text_most x = prefix_len-le-length (λ b. not (is_nul b)) x

pub text_within : (k : ℕ) (x : List ℕ) → list_any is_nul (take k x) ≡ true → (position_or_len is_nul x < k) × (position_or_len is_nul x < length x)
text_within k x e =
    let some = any_within (take k x) e in
    let n = len_prefix k x in
    let m = length-take k x in
    (omega (arith, some, n, m), omega (arith, some, n, m))

-- a prefix with enough bytes has the same text
pub text_prefix : (k : ℕ) (x : List ℕ) → position_or_len is_nul x ≤ k → before_first is_nul (take k x) ≡ before_first is_nul x
text_prefix k x le = grind (arith, common_steps, len_prefix, take-take)

texts_differ : (x y : List ℕ) → (length x ≡ length y → ⊥) → bytes_eq x y ≡ false
texts_differ x y ne = false_from_ne_true (bytes_eq x y) (λ e. ne (ap length ((bytes_eq-Decides x y).0 e)))

-- a name's length and one more byte suffice for a comparison
pub text_is : (x name : List ℕ) (k : ℕ) → length name < k → position_or_len is_nul x < length x → bytes_eq (before_first is_nul (take k x)) name ≡ bytes_eq (before_first is_nul x) name
text_is x name k lt some = grind (arith, common_steps, cases_lt, len_prefix, text_len, text_prefix, texts_differ)

-- a text shorter than the name
pub text_is_not : (x name : List ℕ) → position_or_len is_nul x < length name → false ≡ bytes_eq (before_first is_nul x) name
text_is_not x name lt = let all = text_len x in sym (texts_differ _ name (λ e. omega (arith, e, all, lt)))
