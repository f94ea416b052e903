-- The stored digest and the content of a component.
use Rattle.std.proofs.Common.{◌≡◌, Bool, List, ℕ, ◌+◌, ◌≤◌, ◌∙◌, Option, Some, None, true, false, ap, cond, refl}
use Rattle.std.specs.Prelude.{slice_range}
use Rattle.flash_format.specs.Components.{cell_content}
use Rattle.flash_format.specs.Head.{head_of}
use Rattle.flash_format.specs.declared.head.Head.{Head}
use Rattle.cbfs_walk.specs.Cells.{cell_in}
use Rattle.cbfs_walk.specs.declared.cell.Cell.{Cell}
use Rattle.cbfs_walk.proofs.CutLaws.{cell_part}
use Rattle.std.specs.Option.{option_and_then, option_map_or}
use Rattle.std.specs.Str.{bytes_eq}
use Rattle.flash_format.specs.declared.digest.Digest.{Digest}
use Rattle.flash_format.specs.Entry.{Attribute, HASH, data_of}
use Rattle.flash_format.specs.Made.{algorithm, digest_bytes}
use Rattle.cbfs_walk.specs.Hashes.{content_at, hash_state, hashed_by, stored_digest}
use Rattle.cbfs_walk.specs.declared.hashes.HashState.TheVariants.{Invalid, Unsupported, Valid, Absent}
use Rattle.check_digests.specs.Digests.{compared, digest_in}

either : (stored : Digest) (same : Bool) → compared (cond same (Valid stored) (Invalid stored)) ≡ Some stored
either stored true = refl
either stored false = refl

of_contents : (content : List ℕ) (found : Option Digest) → compared (option_map_or (λ stored. cond (bytes_eq (digest_bytes stored) (digest_bytes (hashed_by (algorithm stored) content))) (Valid stored) (Invalid stored)) found Unsupported) ≡ found
of_contents content None = refl
of_contents content (Some stored) = either stored (bytes_eq (digest_bytes stored) (digest_bytes (hashed_by (algorithm stored) content)))

of_data : (content : List ℕ) (found : Option (List ℕ)) → compared (option_map_or (λ contents. option_map_or (λ stored. cond (bytes_eq (digest_bytes stored) (digest_bytes (hashed_by (algorithm stored) content))) (Valid stored) (Invalid stored)) (stored_digest contents) Unsupported) found Absent) ≡ option_and_then stored_digest found
of_data content None = refl
of_data content (Some contents) = of_contents content (stored_digest contents)

-- a check compares the digest in the first hash attribute
pub compared_digest : (attributes : List Attribute) (content : List ℕ) → compared (hash_state attributes content) ≡ digest_in attributes
compared_digest attributes content = of_data content (data_of HASH attributes)

-- the content of a cell, in its region
pub content_in : (x : List ℕ) (c : Cell) → head_of (cell_in x c) ≡ c.head → c.head.offset + c.head.len ≤ c.span → cell_content (cell_in x c) ≡ content_at x c
content_in x c head fits =
    ap (λ (h : Head). slice_range (cell_in x c) h.offset (h.offset + h.len)) head ∙ cell_part x c c.head.offset (c.head.offset + c.head.len) fits
