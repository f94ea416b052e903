-- Digests in hash attributes (`struct cbfs_file_attr_hash`): a big-endian `enum vb2_hash_algorithm`
-- of vboot, and a digest of FIPS 180-4. This project's rules: supported algorithms and attribute
-- lengths.
use Rattle.std.specs.Prelude.{ℕ, ◌+◌, List, length, slice_range, Option, Some, None, nat_lt, if◌then◌else◌}
use Rattle.std.specs.Option.{option_and_then, option_map_or}
use Rattle.std.specs.Str.{bytes_eq}
use Rattle.sha2.specs.Sha256.{sha256}
use Rattle.sha2.specs.Sha512.{sha512}
use Rattle.flash_format.specs.declared.digest.Algorithm.{Algorithm}
use Rattle.flash_format.specs.declared.digest.Algorithm.TheVariants as algorithms
use Rattle.flash_format.specs.declared.digest.Digest.{Digest}
use Rattle.flash_format.specs.declared.digest.Digest.TheVariants.{Sha256, Sha512}
use Rattle.flash_format.specs.Head.{be32}
use Rattle.flash_format.specs.Entry.{Attribute, data_of, HASH}
use Rattle.flash_format.specs.Made.{algorithm, algorithm_row, algorithm_numbered, digest_with}
use Rattle.flash_format.specs.Made.{digest_bytes}
use Rattle.cbfs_walk.specs.declared.cell.Cell.{Cell}
use Rattle.cbfs_walk.specs.declared.hashes.HashState.{HashState}
use Rattle.cbfs_walk.specs.declared.hashes.HashState.TheVariants.{Absent, Valid, Invalid, Unsupported}
use Rattle.cbfs_walk.specs.Cells.{content_start, content_end}

-- ---- digests

-- opaque, so that proofs don't unfold the standard's definitions
unfoldable pub hashed_by : Algorithm → List ℕ → Digest
hashed_by algorithms.Sha256 bytes = Sha256 (sha256 bytes)
hashed_by algorithms.Sha512 bytes = Sha512 (sha512 bytes)

-- ---- states of a hash attribute

-- the digest after the algorithm's number, if complete
unfoldable pub stored_digest : List ℕ → Option Digest
stored_digest contents = option_and_then (λ a. let end = 4 + (algorithm_row a).len in
    if nat_lt (length contents) end then None
    else Some (digest_with a (slice_range contents 4 end))) (algorithm_numbered (be32 0 contents))

abbrev pub comparison : Digest → Digest → HashState
comparison stored computed = if bytes_eq (digest_bytes stored) (digest_bytes computed)
    then Valid stored else Invalid stored

-- by the first hash attribute
abbrev pub hash_state : List Attribute → List ℕ → HashState
hash_state all content = option_map_or (λ contents. option_map_or
    (λ stored. comparison stored (hashed_by (algorithm stored) content))
    (stored_digest contents) Unsupported) (data_of HASH all) Absent

-- ---- in a region

abbrev pub content_at : List ℕ → Cell → List ℕ
content_at x c = slice_range x (content_start c) (content_end c)
