-- The partition table of Intel's Management Engine, at the start of the area SI_ME.
use Rattle.std.specs.Prelude.{ℕ, Bool, true, false, List, if◌then◌else◌}
use lib.Chars.{codes}
use Rattle.board_structures.specs.Filling.{each_byte_is, first_page}
use Rattle.board_structures.specs.Magics.{has_magic_at}
use Rattle.board_structures.specs.declared.partition_table.PartitionTable.{PartitionTable}
use Rattle.board_structures.specs.declared.partition_table.PartitionTable.TheVariants as states

-- ---- the layout
--
-- | offset    | bytes | field             |
-- | --------- | ----- | ----------------- |
-- | 0x10 or 0 | 4     | the marker `$FPT` |

abbrev pub marker : List ℕ
marker = codes "$FPT"

-- of the first page of an area with content; older tables have 16 bytes before the marker
abbrev pub table_of_page : List ℕ → PartitionTable
table_of_page x = if has_magic_at 16 marker x then states.Present 16
    else (if has_magic_at 0 marker x then states.Present 0 else states.Missing)

unfoldable pub partition_table_in : List ℕ → PartitionTable
partition_table_in x = if each_byte_is 0xff x then states.Blank else table_of_page (first_page x)

-- the board doesn't boot; a blank area is in images that are built without the files of Intel
abbrev pub is_bad : PartitionTable → Bool
is_bad states.Blank = false
is_bad states.Missing = true
is_bad (states.Present at) = false
