-- The attributes of a component as coreboot's firmware walks them, and their first fault. Three
-- readers end the list at different places. The commands of this project end the list at an
-- attribute with an unused tag. The firmware continues after an unused attribute. Coreboot's tools
-- continue only if the unused attribute is the first of the list. Therefore a used attribute after
-- an unused attribute is a fault. The firmware ignores an attribute of an unexpected length.
use Rattle.std.specs.Prelude.{◌≡◌, IsSomeAnd, ℕ, zero, suc, pred, ◌+◌, ◌%◌, ◌<◌, Bool, true, false, not, ◌&&◌, ◌==◌, nat_le, nat_lt, if◌then◌else◌}
use Rattle.std.specs.Prelude.{List, [], ◌∷◌, ◌++◌, length, slice_range, Option, Some, None}
use Rattle.std.specs.Bool.{then_some}
use Rattle.std.specs.List.{list_any}
use Rattle.std.specs.Option.{option_map_or, option_or}
use Rattle.flash_format.specs.Head.{be32, head_of}
use Rattle.flash_format.specs.Entry.{Attribute, attr_head_of, attribute, attribute_field, is_unused, COMPRESSION, HASH}
use Rattle.flash_format.specs.declared.attribute.AttrHead.{AttrHead}
use Rattle.cbfs_anchor.specs.declared.algorithm.Algorithm.{Algorithm}
use Rattle.cbfs_anchor.specs.Algorithms.{algorithm_numbered, digest_len}
use Rattle.check_findings.specs.declared.region.attributes.EarlierAttributes.{EarlierAttributes}
use Rattle.check_findings.specs.declared.region.finding.AttributeFault.{AttributeFault}
use Rattle.check_findings.specs.declared.region.finding.AttributeFault.TheVariants.{BehindEnd, CompressionLength, DigestLength, UnknownAlgorithm, SecondDigest, NoStage, EntryOutside}

-- ---- the list

-- the bytes begin with an attribute: its length covers its head of eight bytes, and fits
abbrev pub begins_attribute : List ℕ → Bool
begins_attribute x = let h = attr_head_of x in
    nat_le 8 (length x) && (nat_le 8 h.len && nat_le h.len (length x))

-- The attributes of the bytes after the first `skip` bytes. The walk takes the first byte of an
-- attribute, and skips the other `len - 1` bytes. The walk ends at bytes that begin no attribute.
unfoldable pub walk_after : ℕ → List ℕ → List Attribute
walk_after skip [] = []
walk_after (suc skip) (b ∷ rest) = walk_after skip rest
walk_after zero (b ∷ rest) = let x = b ∷ rest in
    if begins_attribute x then attribute x ∷ walk_after (pred (attr_head_of x).len) rest else []

-- all attributes of a list, also after an unused tag
abbrev pub walked : List ℕ → List Attribute
walked x = walk_after 0 x

-- the head of the attribute with which the bytes begin
abbrev pub first_head : List ℕ → Option AttrHead
first_head x = then_some (begins_attribute x) (attr_head_of x)

-- the attribute at the offset `at` of the bytes x, with the head `h`
abbrev pub attribute_at : List ℕ → ℕ → AttrHead → Attribute
attribute_at x at h = record { tag = h.tag; contents = slice_range x (at + 8) (at + h.len) }

-- ---- faults of single attributes, by their contents, which follow the head of eight bytes

-- the type `stage`
abbrev pub stage_type : ℕ
stage_type = 0x11

-- stage attribute (`struct cbfs_file_attr_stageheader`): load address of eight bytes, offset of the
-- entry point, size in memory
abbrev pub STAGE : ℕ
STAGE = 0x53746748

abbrev pub is_used : Attribute → Bool
is_used a = not (is_unused a.tag)

-- the kinds of attributes that precede another attribute
abbrev pub earlier_in : List Attribute → EarlierAttributes
earlier_in before = record {
  has_unused = list_any (λ (a : Attribute). is_unused a.tag) before;
  has_digest = list_any (λ (a : Attribute). a.tag == HASH) before;
  has_stage = list_any (λ (a : Attribute). a.tag == STAGE) before;
}

-- the fault of a compression attribute with contents of `len` bytes, which are the compression and
-- the decompressed size
abbrev pub compression_fault : ℕ → Option AttributeFault
compression_fault len = if len == 8 then None else Some CompressionLength

-- the algorithm of a digest, by the last byte of its number; coreboot doesn't read the others
abbrev pub algorithm_of : ℕ → Option Algorithm
algorithm_of number = algorithm_numbered (number % 256)

-- The fault of a digest of the algorithm `a` with contents of `len` bytes: a wrong length, or else
-- an earlier digest, since coreboot reads only the first digest.
abbrev pub digest_fault : Bool → ℕ → Algorithm → Option AttributeFault
digest_fault has_digest len a = if len == 4 + digest_len a
    then then_some has_digest SecondDigest else Some DigestLength

-- the fault of a digest by the number of the algorithm
abbrev pub numbered_fault : Bool → ℕ → ℕ → Option AttributeFault
numbered_fault has_digest len number =
    option_map_or (digest_fault has_digest len) (algorithm_of number) (Some UnknownAlgorithm)

-- the fault of a hash attribute, whose contents are the number of the algorithm and the digest
abbrev pub hash_fault : Bool → List ℕ → Option AttributeFault
hash_fault has_digest contents = if nat_lt (length contents) 4 then Some DigestLength
    else numbered_fault has_digest (length contents) (be32 0 contents)

-- the entry point, an offset from the load address, lies outside the memory of the stage
abbrev pub entry_fault : ℕ → ℕ → Option AttributeFault
entry_fault entry memory = then_some (nat_le memory entry) EntryOutside

-- the fault of the attribute of a stage; the firmware ignores an attribute of another length
abbrev pub stage_fault : List ℕ → Option AttributeFault
stage_fault contents = if length contents == 16
    then entry_fault (be32 8 contents) (be32 12 contents) else Some NoStage

-- A stage without an earlier stage attribute. The firmware reads only the first stage attribute,
-- and later stage attributes have no fault.
abbrev pub needs_stage : ℕ → EarlierAttributes → Bool
needs_stage kind earlier = kind == stage_type && not earlier.has_stage

-- the fault of an attribute in a component of type `kind`, after the earlier attributes
abbrev pub fault_of : ℕ → EarlierAttributes → Attribute → Option AttributeFault
fault_of kind earlier a = if earlier.has_unused && is_used a then Some BehindEnd
    else (if a.tag == COMPRESSION then compression_fault (length a.contents)
    else (if a.tag == HASH then hash_fault earlier.has_digest a.contents
    else (if a.tag == STAGE && needs_stage kind earlier then stage_fault a.contents else None)))

-- ---- the first fault

-- the fault of a component with a list that ends after the earlier attributes
abbrev pub missing_fault : ℕ → EarlierAttributes → Option AttributeFault
missing_fault kind earlier = then_some (needs_stage kind earlier) NoStage

-- the first fault of the attributes after `before`, or else the fault of a missing attribute
unfoldable pub fault_after : ℕ → List Attribute → List Attribute → Option AttributeFault
fault_after kind before [] = missing_fault kind (earlier_in before)
fault_after kind before (a ∷ others) = option_or (fault_of kind (earlier_in before) a)
    (fault_after kind (before ++ a ∷ []) others)

-- the attributes of a component, by the bytes of its cell: head, name, attributes and content
abbrev pub cell_walked : List ℕ → List Attribute
cell_walked x = walked (attribute_field (head_of x) x)

-- the first fault of a component's attributes
abbrev pub cell_fault : List ℕ → Option AttributeFault
cell_fault x = fault_after (head_of x).kind [] (cell_walked x)

-- ---- attributes without a fault

-- an attribute of a component of type `kind`, after the attributes `before` of the same component
pub record IsSoundAttribute (kind : ℕ) (before : List Attribute) (a : Attribute) : Type 0 where
  pub listed : is_unused a.tag ≡ false → (earlier_in before).has_unused ≡ false
  pub compression : a.tag ≡ COMPRESSION → length a.contents ≡ 8
  pub digest : a.tag ≡ HASH → IsSomeAnd (algorithm_of (be32 0 a.contents))
      (λ algorithm. length a.contents ≡ 4 + digest_len algorithm)
  pub single : a.tag ≡ HASH → (earlier_in before).has_digest ≡ false
  -- the form of the first stage attribute of a stage
  pub stage : kind ≡ stage_type → a.tag ≡ STAGE → (earlier_in before).has_stage ≡ false
      → (length a.contents ≡ 16) × (be32 8 a.contents < be32 12 a.contents)

-- all attributes of a component of type `kind`
pub record AreSoundAttributes (kind : ℕ) (all : List Attribute) : Type 0 where
  pub each : (before after : List Attribute) (a : Attribute) → all ≡ before ++ a ∷ after
      → IsSoundAttribute kind before a
  -- a stage has a stage attribute
  pub stage : kind ≡ stage_type → (earlier_in all).has_stage ≡ true
