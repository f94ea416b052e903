-- Public keys of vboot (`struct vb2_packed_key`), little-endian.
use Rattle.std.specs.Prelude.{ℕ, ◌+◌, ◌/◌, List, [], ◌∷◌, Option, Some, None, slice_get, nat_lt, ◌==◌, if◌then◌else◌}
use Rattle.std.specs.Option.{option_map_or}
use Rattle.flash_format.specs.Flashmap.{le}
use Rattle.board_structures.specs.declared.packed_key.PackedKey.{PackedKey}
use Rattle.board_structures.specs.declared.packed_key.KeyFault.{KeyFault}
use Rattle.board_structures.specs.declared.packed_key.KeyFault.TheVariants as faults

-- ---- the layout; the other bytes are reserved, or are the key's version
--
-- | offset | bytes | field                                           |
-- | ------ | ----- | ----------------------------------------------- |
-- | 0      | 4     | the offset of the key, from this structure on   |
-- | 8      | 4     | the length of the key                           |
-- | 16     | 4     | the number of the algorithm                     |

abbrev pub packed_key_len : ℕ
packed_key_len = 32

unfoldable pub packed_key_of : List ℕ → PackedKey
packed_key_of x = record { offset = le 4 0 x; size = le 4 8 x; algorithm = le 4 16 x }

-- The lengths of keys of RSA with 1024, 2048, 4096 and 8192 bits, and with exponent 3 with 2048 and
-- 3072 bits: two numbers of 4 bytes, and two of the modulus's length. Each has three algorithms,
-- with SHA-1, SHA-256 and SHA-512 (`enum vb2_crypto_algorithm`).
abbrev pub key_lens : List ℕ
key_lens = 264 ∷ 520 ∷ 1032 ∷ 2056 ∷ 520 ∷ 776 ∷ []

abbrev pub key_len : ℕ → Option ℕ
key_len algorithm = slice_get key_lens (algorithm / 3)

-- of a key of an algorithm that has this length, in a structure of `room` bytes
abbrev pub size_fault : ℕ → PackedKey → ℕ → Option KeyFault
size_fault room key len = if key.size == len
    then (if nat_lt room (key.offset + key.size) then Some faults.Outside else None)
    else Some (faults.Length (record { size = key.size; expected = len }))

abbrev pub key_fault : ℕ → PackedKey → Option KeyFault
key_fault room key = option_map_or (size_fault room key) (key_len key.algorithm)
    (Some (faults.Algorithm key.algorithm))
