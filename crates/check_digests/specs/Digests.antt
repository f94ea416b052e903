-- The digests of components. This project defines which digests a listing has.
use Rattle.std.specs.Prelude.{ℕ, List, [], ◌∷◌, Option, Some, None, map, if◌then◌else◌}
use Rattle.std.specs.List.{flat_map}
use Rattle.std.specs.Option.{option_and_then, option_map_or}
use Rattle.sha2.specs.Sha256.{sha256}
use Rattle.flash_format.specs.declared.digest.Digest.{Digest}
use Rattle.flash_format.specs.Components.{Component, component_at, components}
use Rattle.flash_format.specs.Entry.{Attribute, HASH, data_of}
use Rattle.flash_format.specs.Head.{head_of, is_free}
use Rattle.cbfs_walk.specs.Hashes.{stored_digest}
use Rattle.cbfs_walk.specs.declared.hashes.HashState.{HashState}
use Rattle.cbfs_walk.specs.declared.hashes.HashState.TheVariants.{Absent, Valid, Invalid, Unsupported}
use Rattle.cbfs_walk.specs.Shapes.{shape_fault}
use Rattle.check_findings.specs.ImageFindings.{entry_bytes, region_areas}
use Rattle.check_findings.specs.declared.areas.NumberedArea.{NumberedArea}
use Rattle.check_findings.specs.declared.image.finding.ImageFinding.{ImageFinding}

-- the digest in the first hash attribute, and SHA-256 of the content as it is stored
pub record SeenDigests : Type 0 where
  pub stored : Option Digest
  pub content : List ℕ

-- the digest in the first hash attribute; none without an attribute with a digest of SHA-256 or
-- SHA-512
abbrev pub digest_in : List Attribute → Option Digest
digest_in attributes = option_and_then stored_digest (data_of HASH attributes)

-- the stored digest that a check compared
abbrev pub compared : HashState → Option Digest
compared (Valid digest) = Some digest
compared (Invalid digest) = Some digest
compared Absent = None
compared Unsupported = None

-- opaque, so that proofs don't unfold the standard's definition
unfoldable pub content_digest : List ℕ → List ℕ
content_digest content = sha256 content

abbrev pub digests_of : Component → SeenDigests
digests_of c = record { stored = digest_in c.attributes; content = content_digest c.content }

-- of the entry at an offset; an empty entry has none
abbrev pub cell_digests : ℕ → List ℕ → List SeenDigests
cell_digests at bytes =
    if is_free (head_of bytes) then [] else digests_of (component_at at bytes) ∷ []

-- of the components of a region, up to a damage; none without a valid shape
unfoldable pub region_digests : List ℕ → List SeenDigests
region_digests x = option_map_or (λ fault. []) (shape_fault x) (map digests_of (components x))

-- of the components of some areas, in order
abbrev pub digests_in : List ℕ → List NumberedArea → List SeenDigests
digests_in image areas = flat_map (λ a. region_digests (entry_bytes image a)) areas

-- of the components of the checked areas, in the order of the findings
abbrev pub image_digests : List ℕ → List ImageFinding → List SeenDigests
image_digests image findings = digests_in image (region_areas findings)
