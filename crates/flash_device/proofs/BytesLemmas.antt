-- Writes over lists of bytes, single and consecutive.
use Rattle.std.proofs.Common.{◌≡◌, ℕ, ◌+◌, ◌-◌, ◌≤◌, List, ◌++◌, length, take, drop, refl, sym, ap, subst, ◌∙◌, arith, rules, length-append, length-take, length-drop, take-append-drop}
use Rattle.std.specs.Prelude.{slice_range}
use Rattle.std.proofs.lemmas.List.{append_assoc, take-take, drop-drop, drop-take, take_at, drop_at, length-take-le, take-append-le, drop-append-le}
use Rattle.std.proofs.Math.Seq.{take-add}
use Rattle.std.proofs.lemmas.Slice.{take-put_mid_below, take-put_mid, drop-put_mid}
use Rattle.flash_device.specs.Device.{overwritten, SameOutside, PartWritten}
use borrow.Rule.Slice.PartMut.{put_mid}

-- a part, by offset and length
pub slice_range_is : (xs : List ℕ) (at n : ℕ) → slice_range xs at (at + n) ≡ take n (drop at xs)
slice_range_is xs at n = ap (λ k. take k (drop at xs)) {x = at + n - at} {y = n} (omega arith)

pub length-slice_range : (xs : List ℕ) (at n : ℕ) → at + n ≤ length xs → length (slice_range xs at (at + n)) ≡ n
length-slice_range xs at n within = grind (arith, length-take, length-drop)

-- a prefix decides its parts
front_decides : (xs ys : List ℕ) (start n len : ℕ) → start + n ≤ len → take len xs ≡ take len ys → take n (drop start xs) ≡ take n (drop start ys)
front_decides xs ys start n len within same =
    let short = λ (zs : List ℕ). take-take (start + n) len zs within in
    sym (drop-take start n xs) ∙ ap (drop start) (sym (short xs) ∙ ap (take (start + n)) same ∙ short ys) ∙ drop-take start n ys

-- a part of a window is a part of the content
pub part_of_window : (buffer content : List ℕ) (from len at n : ℕ) → take len buffer ≡ slice_range content from (from + len) → from ≤ at → at + n ≤ from + len → slice_range buffer (at - from) (at - from + n) ≡ slice_range content at (at + n)
part_of_window buffer content from len at n same above within =
    let there : from + (at - from) ≡ at = omega (arith, above) in
    slice_range_is buffer (at - from) n
    ∙ front_decides buffer (drop from content) (at - from) n len (omega (arith, above, within)) (same ∙ slice_range_is content from len)
    ∙ ap (take n) (drop-drop (at - from) from content) ∙ ap (λ k. take n (drop k content)) there ∙ sym (slice_range_is content at n)

-- as in std's lemmas
pub overwritten_is : (old : List ℕ) (at : ℕ) (bytes : List ℕ) → overwritten old at bytes ≡ put_mid at (length bytes) old bytes
overwritten_is old at bytes = ap (λ rest. take at old ++ (bytes ++ rest)) (sym (drop-drop (length bytes) at old))

pub take-overwritten : (old : List ℕ) (at : ℕ) (bytes : List ℕ) (n : ℕ) → n ≤ at → at ≤ length old → take n (overwritten old at bytes) ≡ take n old
take-overwritten old at bytes n below within =
    ap (take n) (overwritten_is old at bytes) ∙ take-put_mid_below at (length bytes) old bytes n below within

pub drop-overwritten : (old : List ℕ) (at : ℕ) (bytes : List ℕ) (n : ℕ) → at + length bytes ≤ n → at ≤ length old → drop n (overwritten old at bytes) ≡ drop n old
drop-overwritten old at bytes n above within =
    ap (drop n) (overwritten_is old at bytes) ∙ drop-put_mid at (length bytes) old bytes n above within refl

-- a write changes only its range
pub SameOutside-overwritten : (old : List ℕ) (at n : ℕ) (bytes : List ℕ) → length bytes ≤ n → at ≤ length old → SameOutside at n old (overwritten old at bytes)
SameOutside-overwritten old at n bytes short within = record {
  before = take-overwritten old at bytes at (omega arith) within;
  after = drop-overwritten old at bytes (at + n) (omega arith) within;
}

pub further : (old new : List ℕ) (a b : ℕ) → a ≤ b → drop a new ≡ drop a old → drop b new ≡ drop b old
further old new a b le e =
    let b_is : a + (b - a) ≡ b = omega arith in
    let joined : drop (a + (b - a)) new ≡ drop (a + (b - a)) old = sym (drop-drop (b - a) a new) ∙ ap (drop (b - a)) e ∙ drop-drop (b - a) a old in
    rw b_is at joined

-- likewise for a shorter range
pub SameOutside-wider : (old new : List ℕ) (at m n : ℕ) → m ≤ n → SameOutside at m old new → SameOutside at n old new
SameOutside-wider old new at m n shorter same = record {
  before = same.before;
  after = further old new (at + m) (at + n) (omega arith) same.after;
}

-- likewise for a prefix of the bytes
pub torn_part : {H : Type 0} (old new : List ℕ) (at k : ℕ) (bytes : List ℕ) → (H → SameOutside at (length (take k bytes)) old new) → H → SameOutside at (length bytes) old new
torn_part old new at k bytes same h = SameOutside-wider old new at (length (take k bytes)) (length bytes) (omega (arith, length-take k bytes)) (same h)

-- two consecutive ranges are one write
pub overwritten-more : (old : List ℕ) (at : ℕ) (xs ys : List ℕ) → at + length xs ≤ length old → overwritten (overwritten old at xs) (at + length xs) ys ≡ overwritten old at (xs ++ ys)
overwritten-more old at xs ys within =
    let first : take (at + length xs) (overwritten old at xs) ≡ take at old ++ xs =
    ap (take (at + length xs)) (overwritten_is old at xs) ∙ take-put_mid at (length xs) old xs (at + length xs) refl (omega (arith, within)) in
    let last : drop (at + length xs + length ys) (overwritten old at xs) ≡ drop (at + length (xs ++ ys)) old =
    drop-overwritten old at xs (at + length xs + length ys) (omega arith) (omega (arith, within)) ∙ ap (λ n. drop n old) (grind (arith, length-append)) in
    rw (first, last) (search (rules, append_assoc))

-- with the first write's length as a number
pub overwritten-more_at : (old : List ℕ) (at m : ℕ) (xs ys : List ℕ) → length xs ≡ m → at + m ≤ length old → overwritten (overwritten old at xs) (at + m) ys ≡ overwritten old at (xs ++ ys)
overwritten-more_at old at m xs ys e within =
    subst (λ k. at + k ≤ length old → overwritten (overwritten old at xs) (at + k) ys ≡ overwritten old at (xs ++ ys)) e (overwritten-more old at xs ys) within

-- a longer prefix decides a shorter prefix
pub nearer : (old new : List ℕ) (a b : ℕ) → a ≤ b → take b new ≡ take b old → take a new ≡ take a old
nearer old new a b le e = sym (take-take a b new le) ∙ ap (take a) e ∙ take-take a b old le

-- two changes in a range are one change
pub SameOutside-trans : (old mid new : List ℕ) (at n d m : ℕ) → d + m ≤ n → SameOutside at n old mid → SameOutside (at + d) m mid new → SameOutside at n old new
SameOutside-trans old mid new at n d m within first second = record {
  before = nearer mid new at (at + d) (omega arith) second.before ∙ first.before;
  after = further mid new (at + d + m) (at + n) (omega (arith, within)) second.after ∙ first.after;
}

-- ---- partial writes

pub written-more : (old mid new : List ℕ) (at done n : ℕ) (bytes : List ℕ) → done ≤ length bytes → at + done ≤ length old
    → mid ≡ overwritten old at (take done bytes) → new ≡ overwritten mid (at + done) (take n (drop done bytes)) → new ≡ overwritten old at (take (done + n) bytes)
written-more old mid new at done n bytes within inside so_far now =
    now ∙ ap (λ m. overwritten m (at + done) (take n (drop done bytes))) so_far
    ∙ overwritten-more_at old at done (take done bytes) (take n (drop done bytes)) (length-take-le done bytes within) inside
    ∙ ap (overwritten old at) (sym (take-add done n bytes))

pub written-outside : (old mid : List ℕ) (at done : ℕ) (bytes : List ℕ) → at ≤ length old → mid ≡ overwritten old at (take done bytes) → SameOutside at (length bytes) old mid
written-outside old mid at done bytes inside so_far =
    rw so_far (SameOutside-overwritten old at (length bytes) (take done bytes) (omega (arith, length-take done bytes)) inside)

-- a failed call after the part changes only their range
pub written-torn : (old mid new : List ℕ) (at done torn : ℕ) (bytes : List ℕ) → done + torn ≤ length bytes → at ≤ length old
    → mid ≡ overwritten old at (take done bytes) → SameOutside (at + done) torn mid new → SameOutside at (length bytes) old new
written-torn old mid new at done torn bytes within inside so_far same =
    SameOutside-trans old mid new at (length bytes) done torn within (written-outside old mid at done bytes inside so_far) same

pub written-part : (old mid new : List ℕ) (at done torn : ℕ) (bytes : List ℕ) → torn ≤ 4096 → done + torn ≤ length bytes
    → mid ≡ overwritten old at (take done bytes) → SameOutside (at + done) torn mid new → PartWritten at bytes old new
written-part old mid new at done torn bytes short within so_far same = record { done = done; torn = torn; short = short; within = within; same = rw (← so_far) same }

pub length-overwritten : (x : List ℕ) (at : ℕ) (u : List ℕ) → at + length u ≤ length x → length (overwritten x at u) ≡ length x
length-overwritten x at u inside =
    omega (arith, length-append (take at x) (u ++ drop (at + length u) x), length-append u (drop (at + length u) x), length-take at x, length-drop (at + length u) x)

-- ---- a range after a write

-- the range of the write
pub overwritten-range : (x : List ℕ) (at : ℕ) (u : List ℕ) → at ≤ length x → slice_range (overwritten x at u) at (at + length u) ≡ u
overwritten-range x at u inside =
    slice_range_is (overwritten x at u) at (length u)
    ∙ ap (λ (l : List ℕ). take (length u) l) (drop_at (take at x) (u ++ drop (at + length u) x) at (length-take-le at x inside))
    ∙ take_at u (drop (at + length u) x) (length u) refl

-- a later range
pub overwritten-later : (x : List ℕ) (at : ℕ) (u : List ℕ) (from n : ℕ) → at + length u ≤ from → at ≤ length x → slice_range (overwritten x at u) from (from + n) ≡ slice_range x from (from + n)
overwritten-later x at u from n after inside =
    slice_range_is (overwritten x at u) from n ∙ ap (take n) (drop-overwritten x at u from after inside) ∙ sym (slice_range_is x from n)

-- an earlier range
pub overwritten-earlier : (x : List ℕ) (at : ℕ) (u : List ℕ) (from n : ℕ) → from + n ≤ at → at ≤ length x → slice_range (overwritten x at u) from (from + n) ≡ slice_range x from (from + n)
overwritten-earlier x at u from n before inside =
    slice_range_is (overwritten x at u) from n
    ∙ sym (drop-take from n (overwritten x at u))
    ∙ ap (drop from) (take-overwritten x at u (from + n) before inside)
    ∙ drop-take from n x
    ∙ sym (slice_range_is x from n)

-- ---- a changed range as a write

three_parts : (x : List ℕ) (at n : ℕ) → take at x ++ (slice_range x at (at + n) ++ drop (at + n) x) ≡ x
three_parts x at n =
    ap (λ (l : List ℕ). take at x ++ (l ++ drop (at + n) x)) (slice_range_is x at n)
    ∙ ap (λ (l : List ℕ). take at x ++ (take n (drop at x) ++ l)) (sym (drop-drop n at x))
    ∙ ap (λ (l : List ℕ). take at x ++ l) (take-append-drop n (drop at x))
    ∙ take-append-drop at x

pub overwritten-same : (x : List ℕ) (at n : ℕ) → at + n ≤ length x → overwritten x at (slice_range x at (at + n)) ≡ x
overwritten-same x at n inside =
    ap (λ k. take at x ++ (slice_range x at (at + n) ++ drop (at + k) x)) (length-slice_range x at n inside) ∙ three_parts x at n

-- a change in a range is a write
pub changed-overwritten : (x y : List ℕ) (at n : ℕ) → at + n ≤ length x → length y ≡ length x → SameOutside at n x y → y ≡ overwritten x at (slice_range y at (at + n))
changed-overwritten x y at n inside size same =
    let u : List ℕ = slice_range y at (at + n) in
    sym (three_parts y at n)
    ∙ ap (λ (l : List ℕ). l ++ (u ++ drop (at + n) y)) same.before
    ∙ ap (λ (l : List ℕ). take at x ++ (u ++ l)) same.after
    ∙ ap (λ k. take at x ++ (u ++ drop (at + k) x)) (sym (length-slice_range y at n (omega arith)))

-- a write of more bytes, of which the last are present
pub overwritten-front : (x : List ℕ) (at k n : ℕ) (u : List ℕ) → length u ≡ k → at + k + n ≤ length x → overwritten x at u ≡ overwritten x at (u ++ slice_range x (at + k) (at + k + n))
overwritten-front x at k n u size inside =
    let y : List ℕ = overwritten x at u in
    let m = at + k in
    let long : length y ≡ length x = length-overwritten x at u (omega arith) in
    let there : slice_range y m (m + n) ≡ slice_range x m (m + n) = overwritten-later x at u m n (omega arith) (omega arith) in
    sym (overwritten-same y m n (omega arith))
    ∙ ap (λ (l : List ℕ). overwritten y m l) there
    ∙ overwritten-more_at x at k u (slice_range x m (m + n)) size (omega arith)

-- ---- writes to separate ranges

-- in the first of two lists
pub overwritten-append : (p q : List ℕ) (at : ℕ) (u : List ℕ) → at + length u ≤ length p → overwritten (p ++ q) at u ≡ overwritten p at u ++ q
overwritten-append p q at u inside =
    ap (λ (l : List ℕ). l ++ (u ++ drop (at + length u) (p ++ q))) (take-append-le at p q (omega (arith, inside)))
    ∙ ap (λ (l : List ℕ). take at p ++ (u ++ l)) (drop-append-le (at + length u) p q inside)
    ∙ ap (λ (l : List ℕ). take at p ++ l) (sym (append_assoc u (drop (at + length u) p) q))
    ∙ sym (append_assoc (take at p) (u ++ drop (at + length u) p) q)

-- in the second
overwritten-second : (p q : List ℕ) (at : ℕ) (v : List ℕ) → length p ≡ at → overwritten (p ++ q) at v ≡ p ++ (v ++ drop (length v) q)
overwritten-second p q at v size =
    ap (λ (l : List ℕ). l ++ (v ++ drop (at + length v) (p ++ q))) (take_at p q at size)
    ∙ ap (λ (l : List ℕ). p ++ (v ++ l)) (sym (drop-drop (length v) at (p ++ q)) ∙ ap (drop (length v)) (drop_at p q at size))

-- in either order
pub overwritten-separate : (x : List ℕ) (a : ℕ) (u : List ℕ) (b : ℕ) (v : List ℕ) → a + length u ≤ b → b ≤ length x → overwritten (overwritten x a u) b v ≡ overwritten (overwritten x b v) a u
overwritten-separate x a u b v apart inside =
    let p : List ℕ = take b x in
    let q : List ℕ = drop b x in
    let size : length p ≡ b = length-take-le b x inside in
    let room : a + length u ≤ length p = omega (arith, size, apart) in
    let same_size : length (overwritten p a u) ≡ b = length-overwritten p a u room ∙ size in
    let x_is : x ≡ p ++ q = sym (take-append-drop b x) in
    ap (λ (l : List ℕ). overwritten (overwritten l a u) b v) x_is
    ∙ ap (λ (l : List ℕ). overwritten l b v) (overwritten-append p q a u room)
    ∙ overwritten-second (overwritten p a u) q b v same_size
    ∙ sym (overwritten-append p (v ++ drop (length v) q) a u room)
    ∙ ap (λ (l : List ℕ). overwritten l a u) (sym (overwritten-second p q b v size))
    ∙ ap (λ (l : List ℕ). overwritten (overwritten l b v) a u) (sym x_is)
