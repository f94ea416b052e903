-- The metadata of a region: of each component, in order, the bytes before its content (header,
-- name, attributes, and padding). Free space doesn't count. Coreboot terminates a name in memory
-- before it hashes, so the last byte of each name field counts as NUL.
use Rattle.std.specs.Prelude.{ℕ, ◌-◌, Bool, false, ◌&&◌, ◌||◌, List, [], ◌∷◌, ◌++◌, length, take, slice_range, Option, Some, None, Result, Ok, Err, is_some, ◌==◌, nat_lt, nat_le, if◌then◌else◌}
use Rattle.std.specs.Option.{option_map_or, option_or, option_map}
use Rattle.std.specs.Result.{result_map_both}
use Rattle.flash_format.specs.Head.{be32, head_of, is_free}
use Rattle.flash_format.specs.Entry.{Attribute, data_of, name_end, HASH}
use Rattle.flash_format.specs.Cut.{Cut, End, cut}
use Rattle.flash_format.specs.Components.{Component, components_from, component_at}
use Rattle.cbfs_walk.specs.CellReadings.{place_after}
use Rattle.cbfs_walk.specs.Search.{not_found}
use Rattle.cbfs_walk.specs.Shapes.{shape_fault}
use Rattle.cbfs_anchor.specs.declared.algorithm.Algorithm.{Algorithm}
use Rattle.cbfs_anchor.specs.declared.fault.SealFault.{SealFault}
use Rattle.cbfs_anchor.specs.declared.fault.SealFault.TheVariants as faults
use Rattle.cbfs_anchor.specs.declared.demand.Demand.{Demand}
use Rattle.cbfs_anchor.specs.declared.demand.Demand.TheVariants as demands
use Rattle.cbfs_anchor.specs.declared.demand.StoredHash.{StoredHash}
use Rattle.cbfs_anchor.specs.Algorithms.{number_of, digest_len}
use Rattle.cbfs_anchor.specs.Faults.{walk_fault}

-- the firmware doesn't find a component with more bytes before its content
abbrev pub longest_metadata : ℕ
longest_metadata = 256

abbrev pub bootblock_type : ℕ
bootblock_type = 1

-- the type `cbfs header`
abbrev pub header_type : ℕ
header_type = 2

abbrev pub metadata_len : Component → ℕ
metadata_len c = (head_of c.bytes).offset

abbrev pub is_long : ℕ → Bool
is_long len = nat_lt longest_metadata len

-- the bytes before the content, the last byte of the name field as NUL
abbrev pub terminated : ℕ → ℕ → List ℕ → List ℕ
terminated end offset bytes = take (end - 1) bytes ++ (0 ∷ []) ++ slice_range bytes end offset

-- longer metadata doesn't count
abbrev pub metadata : Component → List ℕ
metadata c = if is_long (metadata_len c) then []
    else terminated (name_end (head_of c.bytes)) (metadata_len c) c.bytes

-- what the digest of the metadata covers
unfoldable pub all_metadata : List Component → List ℕ
all_metadata [] = []
all_metadata (c ∷ others) = metadata c ++ all_metadata others

-- ---- what a component has to satisfy

-- the algorithm's number in a hash attribute, and the number of bytes after it
abbrev pub hash_from : List ℕ → StoredHash
hash_from contents = record { number = be32 0 contents; len = length contents - 4 }

-- the first hash attribute
abbrev pub stored_hash : List Attribute → Option StoredHash
stored_hash all = option_map hash_from (data_of HASH all)

-- it has the algorithm's number, and enough bytes for its digest
abbrev pub is_hash_of : Algorithm → StoredHash → Bool
is_hash_of a hash = hash.number == number_of a && nat_le (digest_len a) hash.len

abbrev pub has_hash_of : Algorithm → Option StoredHash → Bool
has_hash_of a hash = option_map_or (is_hash_of a) hash false

-- The firmware finds the component, and a bootblock stores no digest of itself, which the anchor
-- inside would make invalid.
abbrev pub found_fault : ℕ → ℕ → ℕ → Option StoredHash → Option SealFault
found_fault at kind len hash = if is_long len then Some (faults.TooLong at)
    else (if kind == bootblock_type && is_some hash then Some (faults.HashedBootblock at) else None)

-- the firmware loads the component: it has a digest of the anchor's algorithm, or needs none
abbrev pub loaded_fault : Algorithm → ℕ → ℕ → Option StoredHash → Option SealFault
loaded_fault a at kind hash =
    if kind == bootblock_type || kind == header_type || has_hash_of a hash then None
    else Some (faults.Unhashed at)

abbrev pub fault_by : Demand → Algorithm → ℕ → ℕ → ℕ → Option StoredHash → Option SealFault
fault_by demands.Nothing a at kind len hash = None
fault_by demands.Found a at kind len hash = found_fault at kind len hash
fault_by demands.Loaded a at kind len hash =
    option_or (found_fault at kind len hash) (loaded_fault a at kind hash)

abbrev pub component_fault : Demand → Algorithm → Component → Option SealFault
component_fault demand a c =
    fault_by demand a c.at c.kind (metadata_len c) (stored_hash c.attributes)

-- of the first component that has one
unfoldable pub first_fault : Demand → Algorithm → List Component → Option SealFault
first_fault demand a [] = None
first_fault demand a (c ∷ others) =
    option_or (component_fault demand a c) (first_fault demand a others)

-- ---- regions

-- damage after the cells, or their metadata
abbrev pub metadata_up_to : ℕ → End → List Component → Result (List ℕ) SealFault
metadata_up_to at end all = result_map_both (λ none. all_metadata all) walk_fault (not_found at end)

-- of neighbouring cells from a position on: the first fault of a component, damage, or the metadata
abbrev pub metadata_from : Demand → Algorithm → ℕ → Cut → Result (List ℕ) SealFault
metadata_from demand a at k = let all = components_from at k.cells in
    option_map_or (λ fault. Err fault) (first_fault demand a all)
    (metadata_up_to (place_after at k.cells) k.end all)

-- of a region; a fault of its shape takes precedence
unfoldable pub metadata_in : Demand → Algorithm → List ℕ → Result (List ℕ) SealFault
metadata_in demand a x = option_map_or (λ fault. Err (walk_fault fault)) (shape_fault x)
    (metadata_from demand a 0 (cut x))

-- of one cell
abbrev pub component_metadata : Demand → Algorithm → Component → Result (List ℕ) SealFault
component_metadata demand a c =
    option_map_or (λ fault. Err fault) (component_fault demand a c) (Ok (metadata c))

abbrev pub cell_metadata : Demand → Algorithm → ℕ → List ℕ → Result (List ℕ) SealFault
cell_metadata demand a at bytes = if is_free (head_of bytes) then Ok []
    else component_metadata demand a (component_at at bytes)
