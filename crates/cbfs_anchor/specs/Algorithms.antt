-- Digest algorithms of anchors (vboot's `enum vb2_hash_algorithm`, and the digests of FIPS 180-4).
use Rattle.std.specs.Prelude.{ℕ, List, [], ◌∷◌, Option, ◌==◌}
use Rattle.std.specs.List.{find}
use Rattle.sha1.specs.Sha1.{sha1}
use Rattle.sha1.specs.Sha1 as one
use Rattle.sha2.specs.Sha256.{sha224, sha256}
use Rattle.sha2.specs.Sha512.{sha384, sha512}
use Rattle.sha2.specs.Hashers.{Holds224, Holds256, Holds384, Holds512}
use Rattle.cbfs_anchor.specs.declared.algorithm.Algorithm.{Algorithm}
use Rattle.cbfs_anchor.specs.declared.algorithm.Algorithm.TheVariants.{Sha1, Sha256, Sha512, Sha224, Sha384}
use Rattle.cbfs_anchor.specs.declared.hasher.Hasher.{Hasher}
use Rattle.cbfs_anchor.specs.declared.hasher.Hasher.TheVariants as hashers

-- vboot's number
abbrev pub number_of : Algorithm → ℕ
number_of Sha1 = 1
number_of Sha256 = 2
number_of Sha512 = 3
number_of Sha224 = 4
number_of Sha384 = 5

-- the length of a digest in bytes
abbrev pub digest_len : Algorithm → ℕ
digest_len Sha1 = 20
digest_len Sha256 = 32
digest_len Sha512 = 64
digest_len Sha224 = 28
digest_len Sha384 = 48

abbrev pub algorithms : List Algorithm
algorithms = Sha1 ∷ Sha256 ∷ Sha512 ∷ Sha224 ∷ Sha384 ∷ []

abbrev pub algorithm_numbered : ℕ → Option Algorithm
algorithm_numbered number = find (λ a. number_of a == number) algorithms

-- the digest of a message; opaque, so that proofs don't unfold the standard's definitions
unfoldable pub digest_by : Algorithm → List ℕ → List ℕ
digest_by Sha1 message = sha1 message
digest_by Sha256 message = sha256 message
digest_by Sha512 message = sha512 message
digest_by Sha224 message = sha224 message
digest_by Sha384 message = sha384 message

-- ---- hashers

abbrev pub algorithm_of : Hasher → Algorithm
algorithm_of (hashers.Sha1 state) = Sha1
algorithm_of (hashers.Sha256 state) = Sha256
algorithm_of (hashers.Sha512 state) = Sha512
algorithm_of (hashers.Sha224 state) = Sha224
algorithm_of (hashers.Sha384 state) = Sha384

-- the hasher has received this message
unfoldable pub Holds : Hasher → List ℕ → Type 0
Holds (hashers.Sha1 state) message = one.Holds state message
Holds (hashers.Sha256 state) message = Holds256 state message
Holds (hashers.Sha512 state) message = Holds512 state message
Holds (hashers.Sha224 state) message = Holds224 state message
Holds (hashers.Sha384 state) message = Holds384 state message
