-- The master header of CBFS, the content of a component of type 2 in the area COREBOOT, big-endian
-- (`struct cbfs_header`).
use Rattle.std.specs.Prelude.{ℕ, ◌+◌, ◌-◌, ◌^◌, Bool, false, List, length, slice_range, Option, Some, None, nat_lt, ◌==◌, if◌then◌else◌}
use Rattle.std.specs.Option.{option_map_or, option_or}
use lib.Chars.{codes}
use Rattle.byteorder.specs.Endian.{little_number}
use Rattle.flash_format.specs.Head.{be32}
use Rattle.board_structures.specs.Magics.{has_magic_at}
use Rattle.board_structures.specs.declared.master_header.MasterHeader.{MasterHeader}
use Rattle.board_structures.specs.declared.master_header.MasterHeader.TheVariants as states
use Rattle.board_structures.specs.declared.master_header.HeaderFault.{HeaderFault}
use Rattle.board_structures.specs.declared.master_header.HeaderFault.TheVariants as faults
use Rattle.board_structures.specs.declared.master_header.HeaderFields.{HeaderFields}

-- ---- the layout
--
-- | offset | bytes | field                                                              |
-- | ------ | ----- | ------------------------------------------------------------------ |
-- | 0      | 4     | `ORBC`                                                             |
-- | 4      | 4     | the version, `1112`                                                |
-- | 8      | 4     | the end of the area in the image                                   |
-- | 16     | 4     | the alignment of components, 64                                    |
-- | 20     | 4     | the start of the area in the image                                 |
--
-- The last four bytes of the area are a little-endian number of 32 bits with sign: the offset of
-- the header from the area's end on, below zero.

abbrev pub magic : List ℕ
magic = codes "ORBC"

abbrev pub header_len : ℕ
header_len = 32

abbrev pub version : ℕ
version = 0x31313132

-- after the magic
unfoldable pub fields_of : List ℕ → HeaderFields
fields_of x =
    record { version = be32 4 x; end = be32 8 x; alignment = be32 16 x; start = be32 20 x }

-- ---- the state of a header, in an area with this start and this size

abbrev pub version_fault : HeaderFields → Option HeaderFault
version_fault h = if h.version == version then None else Some (faults.Version h.version)

abbrev pub start_fault : ℕ → HeaderFields → Option HeaderFault
start_fault start h = if h.start == start then None else Some (faults.Start h.start)

abbrev pub end_fault : ℕ → HeaderFields → Option HeaderFault
end_fault end h = if h.end == end then None else Some (faults.End h.end)

abbrev pub alignment_fault : HeaderFields → Option HeaderFault
alignment_fault h = if h.alignment == 64 then None else Some (faults.Alignment h.alignment)

abbrev pub fields_fault : ℕ → ℕ → HeaderFields → Option HeaderFault
fields_fault start size h = option_or (version_fault h) (option_or (start_fault start h)
    (option_or (end_fault (start + size) h) (alignment_fault h)))

-- of the 32 bytes of the header
unfoldable pub header_fault : ℕ → ℕ → List ℕ → Option HeaderFault
header_fault start size bytes = if has_magic_at 0 magic bytes
    then fields_fault start size (fields_of bytes) else Some faults.NoMagic

-- of the last four bytes of the area, for a header at this offset
abbrev pub pointer_fault : ℕ → ℕ → ℕ → Option HeaderFault
pointer_fault at size pointer =
    if pointer + size == at + 2 ^ 32 then None else Some (faults.Pointer pointer)

abbrev pub pointer_in : List ℕ → ℕ
pointer_in x = little_number 4 (slice_range x (length x - 4) (length x - 4 + 4))

abbrev pub fault_in : ℕ → ℕ → List ℕ → Option HeaderFault
fault_in start at x = if nat_lt (length x) (at + header_len) then Some faults.CutOff
    else option_or (header_fault start (length x) (slice_range x at (at + header_len)))
    (pointer_fault at (length x) (pointer_in x))

-- at this offset in an area with this start
unfoldable pub master_header_in : ℕ → ℕ → List ℕ → MasterHeader
master_header_in start at x = option_map_or states.Broken (fault_in start at x) states.Sound

-- Coreboot's own commands leave a header that isn't updated if no bootblock ends the area.
abbrev pub is_bad : Bool → MasterHeader → Bool
is_bad ends_with_bootblock (states.Broken fault) = ends_with_bootblock
is_bad ends_with_bootblock states.Sound = false
