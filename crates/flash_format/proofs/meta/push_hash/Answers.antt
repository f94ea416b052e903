use Rattle.std.proofs.Common.{◌≡◌, ℕ, ◌+◌, List, ◌++◌, length, refl, arith, append_assoc}
use Rattle.byteorder.specs.Endian.{big_bytes}
use Rattle.flash_format.specs.Made.{algorithm, algorithm_row, digest_bytes, hash_attribute}
use Rattle.flash_format.specs.Entry.{HASH}
use Rattle.flash_format.proofs.meta.push_hash.Goals as goal

-- four consecutive pushes
in_a_row : (old v x y z tag len number bytes : List ℕ) → v ≡ old ++ tag → x ≡ v ++ len → y ≡ x ++ number → z ≡ y ++ bytes → z ≡ old ++ (tag ++ len ++ (number ++ bytes))
in_a_row old v x y z tag len number bytes one two three four = rw (four, three, two, one) (simp append_assoc refl)

pub returns-in-Some : goal.returns-in-Some
unfolding hash_attribute
returns-in-Some c =
    let d = c.in-Some.digest.now in
    let len : c.to_be_bytes-in-Some.result ≡ big_bytes 4 (12 + length (digest_bytes d)) = grind arith in
    let number : c.to_be_bytes-in-Some-2.result ≡ big_bytes 4 (algorithm_row (algorithm d)).number = grind arith in
    rw c.in-Some.is (in_a_row c.args.bytes.now.items _ _ _ _ (big_bytes 4 HASH) (big_bytes 4 (12 + length (digest_bytes d))) (big_bytes 4 (algorithm_row (algorithm d)).number) (digest_bytes d)
    (rw c.to_be_bytes.ensures at c.push_text.ensures.items) (rw len at c.push_text-in-Some.ensures.items) (rw number at c.push_text-in-Some-2.ensures.items) (rw c.bytes-in-Some.ensures.value at c.push_text-in-Some-3.ensures.items))
