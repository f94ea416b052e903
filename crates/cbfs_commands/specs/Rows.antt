-- The output of `print` and `layout`, in this project's own formats.
use Rattle.std.specs.Prelude.{ℕ, List, ◌++◌, if◌then◌else◌, Option, Some, None}
use Rattle.std.specs.Prelude.{◌+◌, Bool, not, ◌&&◌, [], length, map}
use Rattle.std.specs.List.{concat, flat_map, scan}
use Rattle.std.specs.Option.{option_map_or}
use Rattle.std.specs.Fmt.{decimal}
use lib.Chars.{codes}
use Rattle.flash_format.specs.Head.{head_of, is_free}
use Rattle.flash_format.specs.Components.{cell_name, cell_attributes, compression_of, cell_content}
use Rattle.flash_format.specs.Flashmap.{text_of}
use Rattle.flash_format.specs.declared.flashmap.Area.{Area}
use Rattle.flash_format.specs.declared.head.Head.{Head}
use Rattle.flash_format.specs.Texts.{hexadecimal, line_feed, printed_compression, printed_name}
use Rattle.flash_format.specs.Texts.{printed_type, tab}
use Rattle.flash_map.specs.declared.search.FoundMap.{FoundMap}
use Rattle.byteorder.specs.Endian.{big_bytes}
use Rattle.hex.specs.Hex.{encode_lower}
use Rattle.flash_format.specs.declared.attribute.AttrHead.{AttrHead}
use Rattle.cbfs_walk.specs.AttrWalks.{head_of_attribute}
use Rattle.flash_format.specs.Made.{algorithm_row, algorithm, digest_bytes}
use Rattle.flash_format.specs.declared.digest.Digest.{Digest}
use Rattle.cbfs_walk.specs.Hashes.{hash_state}
use Rattle.cbfs_walk.specs.declared.hashes.HashState.{HashState}
use Rattle.cbfs_walk.specs.declared.hashes.HashState.TheVariants.{Absent, Valid, Invalid}
use Rattle.cbfs_walk.specs.declared.hashes.HashState.TheVariants.{Unsupported}

-- A cell's name, offset, type, content length and compression.
unfoldable pub row_text : ℕ → Head → Option (List ℕ) → ℕ → List ℕ
row_text at h name n = option_map_or printed_name name (codes "(empty)") ++ tab ++ hexadecimal at
    ++ tab ++ printed_type h.kind ++ tab ++ decimal h.len ++ tab ++ printed_compression n
    ++ line_feed

-- free space has no name and no compression
abbrev pub cell_row : ℕ → List ℕ → List ℕ
cell_row at x = if is_free (head_of x) then row_text at (head_of x) None 0
    else row_text at (head_of x) (Some (cell_name x)) (compression_of (cell_attributes x))

-- ---- lines of the layout

-- offset, name, size and number of areas
unfoldable pub map_line : FoundMap → List ℕ
map_line m = codes "fmap" ++ tab ++ hexadecimal m.at ++ tab ++ printed_name (text_of m.head.name)
    ++ tab ++ decimal m.head.size ++ tab ++ decimal m.head.nareas ++ line_feed

-- name, offset, size and flags
unfoldable pub area_line : Area → List ℕ
area_line a = printed_name (text_of a.name) ++ tab ++ hexadecimal a.offset ++ tab ++ decimal a.size
    ++ tab ++ hexadecimal a.flags ++ line_feed

-- the tag in eight digits, and the length including the header
unfoldable pub attribute_line : AttrHead → List ℕ
attribute_line head = codes "\tattr\t0x" ++ encode_lower (big_bytes 4 head.tag) ++ tab
    ++ decimal head.len ++ line_feed

-- algorithm, digits and validity
abbrev pub digest_line : Digest → List ℕ → List ℕ
digest_line d verdict = codes "\thash\t" ++ (algorithm_row (algorithm d)).name ++ tab
    ++ encode_lower (digest_bytes d) ++ tab ++ verdict ++ line_feed

-- the first hash attribute, if any
unfoldable pub hash_line : HashState → List ℕ
hash_line Absent = []
hash_line (Valid d) = digest_line d (codes "valid")
hash_line (Invalid d) = digest_line d (codes "invalid")
hash_line Unsupported = codes "\thash\tunsupported\n"

-- all lines of a component
abbrev pub details : List ℕ → List ℕ
details x = let all = cell_attributes x in flat_map attribute_line (map head_of_attribute all)
    ++ hash_line (hash_state all (cell_content x))

-- the row, then its lines
abbrev pub shown_cell : Bool → ℕ → List ℕ → List ℕ
shown_cell verbose at x =
    cell_row at x ++ (if verbose && not (is_free (head_of x)) then details x else [])

-- consecutive cells, the first one at the offset
unfoldable pub rows_from : Bool → ℕ → List (List ℕ) → List ℕ
rows_from verbose at cells = concat (scan (λ n x. n + length x) (shown_cell verbose) at cells)
