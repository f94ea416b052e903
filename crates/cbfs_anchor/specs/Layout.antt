-- The anchor of CBFS verification (coreboot's `struct metadata_hash_anchor`). Offsets count from
-- its first byte:
--   0 to 7          the magic
--   8 to 10         ignored
--   11              the number of the algorithm
--   12 up to 12 + d the digest of the metadata, of d bytes
--   from 12 + d     the digest of the flash map, of d bytes
use Rattle.std.specs.Prelude.{ℕ, ◌+◌, ◌*◌, List, [], ◌∷◌, length, Result, Ok, Err, slice_index, nat_lt, nat_eq, Bool, ◌||◌, if◌then◌else◌}
use Rattle.std.specs.Option.{option_map_or}
use Rattle.std.specs.List.{starts_with}
use Rattle.memchr.specs.Find.{first_of, matches}
use Rattle.flash_device.specs.Regions.{Range}
use Rattle.cbfs_anchor.specs.declared.anchor.Anchor.{Anchor}
use Rattle.cbfs_anchor.specs.declared.fault.SealFault.{SealFault}
use Rattle.cbfs_anchor.specs.declared.fault.SealFault.TheVariants as faults
use Rattle.cbfs_anchor.specs.declared.algorithm.Algorithm.{Algorithm}
use Rattle.cbfs_anchor.specs.Algorithms.{algorithm_numbered, digest_len}

abbrev pub magic : List ℕ
magic = 0xad ∷ 0x4d ∷ 0x64 ∷ 0x74 ∷ 0x48 ∷ 0x73 ∷ 0x68 ∷ 0x15 ∷ []

abbrev pub algorithm_place : ℕ
algorithm_place = 11

abbrev pub digests_place : ℕ
digests_place = 12

-- the number of bytes of an anchor
abbrev pub anchor_len : Algorithm → ℕ
anchor_len a = digests_place + 2 * digest_len a

-- the range of both digests, in the image
abbrev pub digests_range : Anchor → Range
digests_range a = record { start = a.at + digests_place; size = 2 * digest_len a.algorithm }

-- The bytes x begin at `start` in the image. The anchor has its magic at p.
abbrev pub anchor_with : ℕ → List ℕ → ℕ → Algorithm → Result Anchor SealFault
anchor_with start x p a = if nat_lt (length x) (p + anchor_len a) then Err faults.CutOff
    else Ok (record { at = start + p; algorithm = a })

abbrev pub anchor_at : ℕ → List ℕ → ℕ → Result Anchor SealFault
anchor_at start x p = if nat_lt (length x) (p + digests_place) then Err faults.CutOff
    else option_map_or (anchor_with start x p)
    (algorithm_numbered (slice_index x (p + algorithm_place))) (Err faults.UnknownAlgorithm)

-- the anchor in these bytes: at the first magic
unfoldable pub anchor_in : ℕ → List ℕ → Result Anchor SealFault
anchor_in start x = option_map_or (anchor_at start x) (first_of (matches x magic 0))
    (Err faults.NoAnchor)

-- ---- bootblocks with a further digest of themselves

-- an ELF file
abbrev pub elf_magic : List ℕ
elf_magic = 0x7f ∷ 0x45 ∷ 0x4c ∷ 0x46 ∷ []

-- Qualcomm's MBN header
abbrev pub mbn_magic : List ℕ
mbn_magic = 0xd1 ∷ 0xdc ∷ 0x4b ∷ 0x84 ∷ []

abbrev pub begins_with : List ℕ → List ℕ → Bool
begins_with x text = starts_with nat_eq x text

-- the first four bytes are those of an ELF file or an MBN header
abbrev pub has_header : List ℕ → Bool
has_header x = begins_with x elf_magic || begins_with x mbn_magic
