-- Different blocks of a region.
use Rattle.std.proofs.Common.{◌≡◌, ◌∙◌, ℕ, zero, suc, ◌+◌, ◌-◌, ◌*◌, ◌<◌, ◌≤◌, Bool, true, List, length, take, drop, min, max, sym, ap, arith, length-take, length-drop, slice_range}
use Rattle.std.specs.Prelude.{not}
use Rattle.std.specs.Int.{from_bool}
use Rattle.std.specs.Str.{bytes_eq}
use Rattle.std.proofs.lemmas.Bool.{false_from_ne_true}
use Rattle.std.proofs.lemmas.Bool.Decides.{nat_tests}
use Rattle.std.proofs.lemmas.List.{drop-drop, drop-take, take-take, take_all}
use Rattle.std.proofs.lemmas.Slice.Eq.{bytes_eq-Decides}
use Rattle.flash_device.specs.Regions.{Range, bytes_in}
use Rattle.flash_device.proofs.BytesLemmas.{slice_range_is}
use Rattle.check_changes.specs.declared.images.Both.{Both}
use Rattle.check_changes.specs.Areas.{blocks_of, differs, count_below, different_blocks}

-- up to 4096 bytes
abbrev pub block : ℕ → List ℕ → List ℕ
block number x = take 4096 (drop (4096 * number) x)

-- two limits on a length are the lower limit
take-both : (m n : ℕ) (x : List ℕ) → take m (take n x) ≡ take (min n m) x
take-both m n x = grind (arith, nat_tests, take-take, take_all, length-take)

-- a block of a region, as bytes of the image
pub block-bytes_in : (r : Range) (image : List ℕ) (number start n : ℕ) → start ≡ 4096 * number → n ≡ min (r.size - start) 4096 → start ≤ r.size → slice_range image (r.start + start) (r.start + start + n) ≡ block number (bytes_in r image)
block-bytes_in r image number start n begins is within =
    let rest = drop r.start image in
    let whole : start + (r.size - start) ≡ r.size = omega (arith, within) in
    slice_range_is image (r.start + start) n
    ∙ ap (λ (x : List ℕ). take n x) (sym (drop-drop start r.start image))
    ∙ ap (λ k. take k (drop start rest)) is
    ∙ sym (take-both 4096 (r.size - start) (drop start rest))
    ∙ ap (take 4096) (sym (drop-take start (r.size - start) rest) ∙ ap (λ k. drop start (take k rest)) whole)
    ∙ ap (λ (x : List ℕ). take 4096 (drop start x)) (sym (slice_range_is image r.start r.size))
    ∙ ap (λ k. take 4096 (drop k (bytes_in r image))) begins

-- two read blocks decide the difference
pub differs-bytes_in : (r s : Range) (x y u v : List ℕ) (number start from at m n : ℕ) (different : Bool) → start ≡ 4096 * number → from ≡ r.start + start → at ≡ s.start + start → m ≡ min (r.size - start) 4096 → n ≡ min (s.size - start) 4096 → start ≤ r.size → start ≤ s.size
    → u ≡ slice_range x from (from + m) → v ≡ slice_range y at (at + n) → different ≡ not (bytes_eq u v) → different ≡ differs (bytes_in r x) (bytes_in s y) number
differs-bytes_in r s x y u v number start from at m n different begins old_at new_at first second in_old in_new u_is v_is is =
    is
    ∙ ap (λ (l : List ℕ). not (bytes_eq l v)) (u_is ∙ ap (λ k. slice_range x k (k + m)) old_at ∙ block-bytes_in r x number start m begins first in_old)
    ∙ ap (λ (l : List ℕ). not (bytes_eq (block number (bytes_in r x)) l)) (v_is ∙ ap (λ k. slice_range y k (k + n)) new_at ∙ block-bytes_in s y number start n begins second in_new)

length-block : (x : List ℕ) (number : ℕ) → length (block number x) ≡ min 4096 (length x - 4096 * number)
length-block x number = length-take 4096 (drop (4096 * number) x) ∙ ap (min 4096) (length-drop (4096 * number) x)

-- each block of the longer list differs after the end of the shorter
differs-behind : (x y : List ℕ) (number : ℕ) → blocks_of (min (length x) (length y)) ≤ number → number < blocks_of (max (length x) (length y)) → differs x y number ≡ true
differs-behind x y number behind before =
    ap not (false_from_ne_true _ (λ (same : bytes_eq (block number x) (block number y) ≡ true). absurd (omega (arith, behind, before, ap length ((bytes_eq-Decides (block number x) (block number y)).0 same), length-block x number, length-block y number))))

-- the count in the longer list, by the count in the shorter
more-behind : (x y : List ℕ) (k : ℕ) → blocks_of (min (length x) (length y)) + k ≤ blocks_of (max (length x) (length y)) → count_below (differs x y) (blocks_of (min (length x) (length y)) + k) ≡ count_below (differs x y) (blocks_of (min (length x) (length y))) + k
more-behind x y zero within = ap (λ n. count_below (differs x y) n) {x = blocks_of (min (length x) (length y)) + 0} {y = blocks_of (min (length x) (length y))} (omega arith) ∙ omega arith
more-behind x y (suc k) within =
    let here = blocks_of (min (length x) (length y)) + k in
    let next : blocks_of (min (length x) (length y)) + suc k ≡ suc here = omega arith in
    let fewer = more-behind x y k (omega (arith, within)) in
    let one = ap from_bool (differs-behind x y here (omega arith) (omega (arith, within))) in
    ap (λ n. count_below (differs x y) n) next ∙ omega (arith, fewer, one)

bytes_in-whole : (r : Range) (x : List ℕ) (n : ℕ) → r ≡ record { start = 0; size = n } → n ≡ length x → bytes_in r x ≡ x
bytes_in-whole r x n is long = ap (λ (r : Range). bytes_in r x) is ∙ slice_range_is x 0 n ∙ take_all n x (omega (arith, long))

-- all different blocks of two images, by the blocks of the shorter
pub different_blocks-all : (x y : List ℕ) (r : Both Range) (lens : Both ℕ) (shorter longer common count : ℕ)
    → r ≡ record { old = record { start = 0; size = lens.old }; new = record { start = 0; size = lens.new } } → lens.old ≡ length x → lens.new ≡ length y
    → shorter ≡ blocks_of (min lens.old lens.new) → longer ≡ blocks_of (max lens.old lens.new)
    → common ≡ count_below (differs (bytes_in r.old x) (bytes_in r.new y)) shorter → count ≡ longer - shorter + common → count ≡ different_blocks x y
unfolding different_blocks
different_blocks-all x y r lens shorter longer common count whole old_len new_len few many is sum =
    let short : shorter ≡ blocks_of (min (length x) (length y)) = omega (arith, old_len, new_len, few) in
    let long : blocks_of (min (length x) (length y)) + (longer - shorter) ≡ blocks_of (max (length x) (length y)) = omega (arith, old_len, new_len, few, many) in
    let own : common ≡ count_below (differs x y) shorter =
    is ∙ ap (λ u. count_below (λ k. differs u (bytes_in r.new y) k) shorter) (bytes_in-whole r.old x lens.old (ap (λ (r : Both Range). r.old) whole) old_len)
    ∙ ap (λ v. count_below (λ k. differs x v k) shorter) (bytes_in-whole r.new y lens.new (ap (λ (r : Both Range). r.new) whole) new_len) in
    let all = sym (more-behind x y (longer - shorter) (omega (arith, long))) ∙ ap (count_below (differs x y)) long in
    omega (arith, sum, own, all, ap (count_below (differs x y)) short)

-- another block is counted
pub count_below-more : (test : ℕ → Bool) (number one : ℕ) (passes : Bool) → passes ≡ test number → one ≡ from_bool passes → count_below test number + one ≡ count_below test (number + 1)
count_below-more test number one passes is counted = grind arith

pub at_most_one : (b : Bool) (n : ℕ) → n ≡ from_bool b → n ≤ 1
at_most_one b n is = grind (arith, nat_tests)
