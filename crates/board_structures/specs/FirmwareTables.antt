-- Intel's Firmware Interface Table (FIT), little-endian: what an x86 processor of Intel uses before
-- its first instruction, above all the updates of its microcode.
use Rattle.std.specs.Prelude.{ℕ, zero, suc, ◌+◌, ◌-◌, ◌*◌, ◌/◌, ◌%◌, ◌^◌, Bool, true, false, ◌&&◌, ◌||◌, List, length, slice_range, Option, Some, None, Result, Ok, Err, min, nat_le, nat_lt, ◌==◌, if◌then◌else◌}
use Rattle.std.specs.Option.{option_map_or}
use lib.Chars.{codes}
use Rattle.flash_format.specs.Flashmap.{le}
use Rattle.board_structures.specs.Magics.{has_magic_at}
use Rattle.board_structures.specs.declared.firmware_table.EntryFault.{EntryFault}
use Rattle.board_structures.specs.declared.firmware_table.FirmwareTable.{FirmwareTable}
use Rattle.board_structures.specs.declared.firmware_table.FirmwareTable.TheVariants as states
use Rattle.board_structures.specs.declared.firmware_table.TableEntry.{TableEntry}
use Rattle.board_structures.specs.declared.firmware_table.TableFault.{TableFault}
use Rattle.board_structures.specs.declared.firmware_table.TableFault.TheVariants as faults
use Rattle.board_structures.specs.declared.firmware_table.UpdateFault.{UpdateFault}
use Rattle.board_structures.specs.declared.firmware_table.UpdateFault.TheVariants as updates

-- ---- the layout
--
-- The image ends at the address 2^32, and at most its last 16 MiB are mapped.
--
-- | offset         | bytes | field                                                              |
-- | -------------- | ----- | ------------------------------------------------------------------ |
-- | the end - 0x40 | 8     | the address of the table                                           |
--
-- The table has entries of 16 bytes. The first one is its header.
--
-- | offset | bytes | field                                                                      |
-- | ------ | ----- | -------------------------------------------------------------------------- |
-- | 0      | 8     | the address, 0xffffffff if it is not used; in the header `_FIT_   `        |
-- | 8      | 3     | in the header, the number of entries, with the header                      |
-- | 14     | 7 bits| the type; 1 is an update of the microcode                                  |
--
-- An update of the microcode is at a multiple of 16, and the sum of its words of 4 bytes is a
-- multiple of 2^32.
--
-- | offset | bytes | field                                                                      |
-- | ------ | ----- | -------------------------------------------------------------------------- |
-- | 0      | 4     | the version of its header, 1; 0xffffffff where the slot is empty           |
-- | 32     | 4     | its length, where 0 means 2048                                             |

abbrev pub signature : List ℕ
signature = codes "_FIT_   "

abbrev pub pointer_distance : ℕ
pointer_distance = 0x40

abbrev pub entry_len : ℕ
entry_len = 16

abbrev pub update_type : ℕ
update_type = 1

abbrev pub update_header_len : ℕ
update_header_len = 48

-- the largest part of an image that is mapped below 2^32
abbrev pub window_len : ℕ
window_len = 0x1000000

-- ---- the place of the table

-- the offset of an address in an image of n bytes, if it is mapped
abbrev pub place_of : ℕ → ℕ → Option ℕ
place_of n address =
    if nat_lt address (2 ^ 32) && nat_le (2 ^ 32) (address + min n window_len)
    then Some (n - (2 ^ 32 - address)) else None

abbrev pub pointer_in : List ℕ → ℕ
pointer_in image = le 8 (length image - pointer_distance) image

-- the place to which the image points, which need not have a table
unfoldable pub table_place : List ℕ → Option ℕ
table_place image = if nat_lt (length image) pointer_distance then None
    else place_of (length image) (pointer_in image)

-- ---- an entry

abbrev pub entry_of : List ℕ → TableEntry
entry_of x = record { address = le 8 0 x; count = le 4 8 x % 2 ^ 24; kind = le 2 14 x % 128 }

-- the entry at a place
abbrev pub entry_at : ℕ → List ℕ → TableEntry
entry_at place image = entry_of (slice_range image place (place + entry_len))

-- ---- an update of the microcode

-- the sum of n words of 4 bytes, the first of them at an offset
unfoldable pub word_sum : ℕ → ℕ → List ℕ → ℕ
word_sum zero at x = 0
word_sum (suc n) at x = le 4 at x + word_sum n (at + 4) x

-- the length that a header states
abbrev pub stated_len : List ℕ → ℕ
stated_len header = if le 4 32 header == 0 then 2048 else le 4 32 header

abbrev pub has_sum : ℕ → ℕ → List ℕ → Bool
has_sum place n image = word_sum (n / 4) place image % 2 ^ 32 == 0

-- An update of n bytes at a place. `left` bytes of updates can follow: more than an image has are
-- none that a processor needs, and this bounds the work.
abbrev pub body_in : ℕ → ℕ → ℕ → List ℕ → Result ℕ UpdateFault
body_in left place n image =
    if nat_lt (length image) (place + n) || nat_lt left n then Err (updates.Length n)
    else (if n % 4 == 0 && has_sum place n image then Ok n else Err updates.Sum)

-- by its header
abbrev pub update_with : ℕ → ℕ → List ℕ → List ℕ → Result ℕ UpdateFault
update_with left place image header =
    if le 4 0 header == 0xffffffff then Ok 0
    else (if le 4 0 header == 1 then body_in left place (stated_len header) image
    else Err (updates.Version (le 4 0 header)))

-- the number of its bytes, 0 in an empty slot
unfoldable pub update_at : ℕ → ℕ → List ℕ → Result ℕ UpdateFault
update_at left place image = if nat_lt (length image) (place + update_header_len)
    then Err updates.CutOff
    else update_with left place image (slice_range image place (place + update_header_len))

-- the address of an entry that is not used, as in a table with room for more updates
abbrev pub unused_address : ℕ
unused_address = 0xffffffff

-- of an address that is used
unfoldable pub used_update_in : ℕ → ℕ → List ℕ → Result ℕ UpdateFault
used_update_in left address image = if address % 16 == 0
    then option_map_or (λ place. update_at left place image) (place_of (length image) address)
    (Err updates.Unmapped) else Err updates.Misaligned

-- of an address
abbrev pub update_in : ℕ → ℕ → List ℕ → Result ℕ UpdateFault
update_in left address image =
    if address == unused_address then Ok 0 else used_update_in left address image

-- ---- the entries

-- the number of bytes of its update; 0 for other types
abbrev pub entry_result : ℕ → List ℕ → TableEntry → Result ℕ UpdateFault
entry_result left image entry =
    if entry.kind == update_type then update_in left entry.address image else Ok 0

-- after the entry with this number: its fault, or what the entries after it give
abbrev pub or_later : ℕ → (ℕ → Option EntryFault) → Result ℕ UpdateFault → Option EntryFault
or_later number later (Ok n) = later n
or_later number later (Err fault) = Some (record { number = number; fault = fault })

-- the first fault of `more` entries of the table at a place, from the entry with this number on
unfoldable pub entries_fault : ℕ → ℕ → ℕ → ℕ → List ℕ → Option EntryFault
entries_fault zero number left place image = None
entries_fault (suc more) number left place image =
    or_later number (λ n. entries_fault more (suc number) (left - n) place image)
    (entry_result left image (entry_at (place + entry_len * number) image))

-- ---- the state of the table

abbrev pub has_table_at : ℕ → List ℕ → Bool
has_table_at place image = nat_le (place + entry_len) (length image)
    && has_magic_at 0 signature (slice_range image place (place + entry_len))

-- of a table with this number of entries
abbrev pub table_fault : ℕ → ℕ → List ℕ → Option TableFault
table_fault zero place image = Some faults.Empty
table_fault (suc more) place image =
    if nat_lt (length image) (place + entry_len * suc more) then Some faults.CutOff
    else option_map_or (λ fault. Some (faults.Entry fault))
    (entries_fault more 1 (length image) place image) None

abbrev pub table_with : ℕ → ℕ → List ℕ → FirmwareTable
table_with count place image =
    option_map_or states.Broken (table_fault count place image) (states.Sound count)

unfoldable pub table_at : ℕ → List ℕ → FirmwareTable
table_at place image = if has_table_at place image
    then table_with (entry_at place image).count place image else states.Absent

unfoldable pub firmware_table_in : List ℕ → FirmwareTable
firmware_table_in image =
    option_map_or (λ place. table_at place image) (table_place image) states.Absent

-- the processor ignores the table, or refuses an update of its microcode
abbrev pub is_bad : FirmwareTable → Bool
is_bad states.Absent = false
is_bad (states.Broken fault) = true
is_bad (states.Sound count) = false

-- the largest number of reads for the entries and updates of a table in an image of n bytes
abbrev pub table_reads : ℕ → ℕ
table_reads n = 3 * (n / 16) + n / 4096
