-- A set of names.
use Rattle.std.proofs.Common.{◌≡◌, ℕ, ◌+◌, ◌<◌, map, take, drop, get_or, length, add-one, Some, Bool, true, false, cond, ◌||◌, List, [], ◌∷◌, ◌++◌, refl, sym, Bor, arith, rules}
use Rattle.std.proofs.Math.Bool.{or-true, or-false}
use Rattle.std.proofs.Math.Seq.{drop-cons, take-suc}
use Rattle.std.proofs.lemmas.List.{map-append}
use Rattle.std.proofs.lemmas.List.Folds.{list_any-append}
use Rattle.std.proofs.lemmas.Map.Text.{is_eq-slice_cmp}
use Rattle.std.specs.List.{list_any}
use Rattle.std.specs.Str.{bytes_eq}
use Rattle.std.specs.Ordering.{is_eq, nat_cmp}
use Rattle.std.specs.Cmp.Lexicographic.{slice_cmp}
use Rattle.fmd_lang.specs.Table.{duplicate}

abbrev pub has : List ℕ → List (Bor (List ℕ)) → Bool
has q ks = list_any (λ k. is_eq (slice_cmp nat_cmp q k.now)) ks

abbrev pub texts : List (Bor (List ℕ)) → List (List ℕ)
texts xs = map (λ r. r.now) xs

abbrev pub no_name : Bor (List ℕ)
no_name = record { ref_ptr = (0, 0); now = [] }

take-more : (names : List (Bor (List ℕ))) (n : ℕ) → n < length names →
    texts (take (n + 1) names) ≡ texts (take n names) ++ (get_or names n no_name).now ∷ []
take-more names n h = rw (add-one, take-suc names n no_name h) (map-append (λ r. r.now) (take n names) (get_or names n no_name ∷ []))

-- a step of the search for a duplicate
pub duplicate-at : (names : List (Bor (List ℕ))) (n : ℕ) (known : Bool) → n < length names →
    list_any (bytes_eq (get_or names n no_name).now) (texts (take n names)) ≡ known →
    duplicate n (texts (take n names)) (texts (drop n names))
    ≡ cond known (Some n) (duplicate (n + 1) (texts (take (n + 1) names)) (texts (drop (n + 1) names)))
duplicate-at names n known h is = rw (take-more names n h, drop-cons names n no_name h, is, add-one) refl

pub any-from : (test : List ℕ → Bool) (names : List (Bor (List ℕ))) (n : ℕ) (known : Bool) → n < length names →
    test (get_or names n no_name).now ≡ known →
    list_any test (texts (drop n names)) ≡ (known || list_any test (texts (drop (n + 1) names)))
any-from test names n known h is = rw (drop-cons names n no_name h, is, add-one) refl

either : (a b : Bool) → cond a true b ≡ (b || (a || false))
either true b = sym (or-true b)
either false b = sym (or-false b)

pub has-more : (names : List (Bor (List ℕ))) (n : ℕ) (q : List ℕ) (before after : Bool) → n < length names →
    after ≡ cond (is_eq (slice_cmp nat_cmp (get_or names n no_name).now q)) true before →
    before ≡ list_any (bytes_eq q) (texts (take n names)) → after ≡ list_any (bytes_eq q) (texts (take (n + 1) names))
has-more names n q before after h more so_far = search (arith, rules, is_eq-slice_cmp, either, list_any-append, take-more)
