-- Literal structures, as bytes of the file.
use Rattle.std.specs.Prelude.{ℕ, List, [], ◌∷◌, ◌++◌, replicate}
use lib.Chars.{codes}
use Rattle.byteorder.specs.Endian.{little_bytes}
use Rattle.flash_format.specs.declared.flashmap.Area.{Area}
use Rattle.board_structures.specs.declared.descriptor.RegionTable.{RegionTable}
use Rattle.board_structures.specs.declared.signed_slot.SlotBody.{SlotBody}

-- The table of a flash of 16 MiB: the descriptor in the first 4 KiB, the Management Engine up to 2
-- MiB, the BIOS from there on. Unused regions have the base 0x7fff and the limit 0.
abbrev pub small_entries : List ℕ
small_entries = 0x00 ∷ 0x00 ∷ 0x00 ∷ 0x00
    ∷ 0x00 ∷ 0x02 ∷ 0xff ∷ 0x0f
    ∷ 0x01 ∷ 0x00 ∷ 0xff ∷ 0x01
    ∷ 0xff ∷ 0x7f ∷ 0x00 ∷ 0x00
    ∷ 0xff ∷ 0x7f ∷ 0x00 ∷ 0x00
    ∷ 0xff ∷ 0x7f ∷ 0x00 ∷ 0x00
    ∷ 0xff ∷ 0x7f ∷ 0x00 ∷ 0x00
    ∷ 0xff ∷ 0x7f ∷ 0x00 ∷ 0x00
    ∷ 0xff ∷ 0x7f ∷ 0x00 ∷ 0x00 ∷ []

abbrev pub small_table : RegionTable
small_table = record { entries = small_entries }

-- the signature at 16, the table at 64
unfoldable pub small_descriptor : List ℕ
small_descriptor = replicate 16 0xff ++ (0x5a ∷ 0xa5 ∷ 0xf0 ∷ 0x0f ∷ 0x03 ∷ 0x00 ∷ 0x04 ∷ 0x00 ∷ [])
    ++ replicate 40 0xff ++ small_entries ++ replicate 3996 0xff

-- an area of this range, with its name in 32 bytes
abbrev pub area_with : List ℕ → ℕ → ℕ → ℕ → Area
area_with name padding offset size =
    record { offset = offset; size = size; name = name ++ replicate padding 0; flags = 0 }

unfoldable pub small_me : List ℕ
small_me = replicate 16 0 ++ codes "$FPT" ++ replicate 12 0

unfoldable pub old_me : List ℕ
old_me = codes "$FPT" ++ replicate 28 0

-- an image with a jump as its first instruction: nop, nop, jmp; then the place of a master header
unfoldable pub small_end : List ℕ
small_end = 0x90 ∷ 0x90 ∷ 0xe9 ∷ 0x5b ∷ 0xfe ∷ 0x00 ∷ 0x00 ∷ 0x00 ∷ 0x00 ∷ 0x00 ∷ 0x00 ∷ 0x00
    ∷ 0x38 ∷ 0xff ∷ 0xff ∷ 0xff ∷ []

-- ---- vboot

-- a number of 4 bytes, low byte first
abbrev pub u32 : ℕ → List ℕ
u32 n = little_bytes 4 n

-- a key of RSA with 1024 bits and SHA-1, of zeros
abbrev pub small_key : List ℕ
small_key = u32 32 ++ u32 0 ++ u32 264 ++ u32 0 ++ u32 0 ++ u32 0 ++ u32 1 ++ u32 0
    ++ replicate 264 0

-- A block of the minor version 1, which has no digest, with the hardware id `TEST 1` at 128, and
-- keys at 144 and 440.
unfoldable pub small_block : List ℕ
small_block = codes "$GBB" ++ (1 ∷ 0 ∷ 1 ∷ 0 ∷ []) ++ u32 128 ++ u32 0x39
    ++ u32 128 ++ u32 16 ++ u32 144 ++ u32 296 ++ u32 440 ++ u32 0 ++ u32 440 ++ u32 296
    ++ replicate 80 0
    ++ codes "TEST 1" ++ replicate 10 0 ++ small_key ++ small_key

-- the last component ends at 64, and the area has 96 bytes
abbrev pub small_body : SlotBody
small_body = record { end = 64; size = 96 }

-- a signature of no bytes over so many signed bytes
abbrev pub empty_signature : ℕ → List ℕ
empty_signature signed = u32 80 ++ u32 0 ++ u32 0 ++ u32 0 ++ u32 signed ++ u32 0

-- a preamble of 176 bytes that signs so many bytes of the body: the first 104 bytes
unfoldable pub small_preamble : ℕ → List ℕ
small_preamble signed = u32 176 ++ u32 0 ++ empty_signature 104 ++ u32 2 ++ replicate 44 0
    ++ empty_signature signed

-- ---- CBFS

-- an area of 64 bytes from 0x100 on, with the header at its start
unfoldable pub small_header_area : List ℕ
small_header_area = codes "ORBC1112" ++ (0 ∷ 0 ∷ 1 ∷ 0x40 ∷ 0 ∷ 0 ∷ 0 ∷ 0
    ∷ 0 ∷ 0 ∷ 0 ∷ 0x40 ∷ 0 ∷ 0 ∷ 1 ∷ 0 ∷ []) ++ replicate 8 0 ++ replicate 28 0xff
    ++ (0xc0 ∷ 0xff ∷ 0xff ∷ 0xff ∷ [])

-- an update of 48 bytes: the version 1, a word that makes the sum of all words 2^32, zeros, the
-- length and zeros
unfoldable pub small_update : List ℕ
small_update = (1 ∷ 0 ∷ 0 ∷ 0 ∷ 0xcf ∷ 0xff ∷ 0xff ∷ 0xff ∷ []) ++ replicate 24 0
    ++ (48 ∷ 0 ∷ 0 ∷ 0 ∷ []) ++ replicate 12 0

-- An image of 144 bytes: these 48 bytes, a firmware interface table that counts these entries and
-- has one for an update at the start of the image, and the pointer to the table.
unfoldable pub image_with_table : List ℕ → ℕ → List ℕ
image_with_table update count = update
    ++ codes "_FIT_   " ++ (count ∷ 0 ∷ 0 ∷ 0 ∷ 0 ∷ 1 ∷ 0 ∷ 0 ∷ [])
    ++ (0x70 ∷ 0xff ∷ 0xff ∷ 0xff ∷ 0 ∷ 0 ∷ 0 ∷ 0 ∷ [])
    ++ (0 ∷ 0 ∷ 0 ∷ 0 ∷ 0 ∷ 1 ∷ 1 ∷ 0 ∷ [])
    ++ (0xa0 ∷ 0xff ∷ 0xff ∷ 0xff ∷ 0 ∷ 0 ∷ 0 ∷ 0 ∷ []) ++ replicate 56 0
