-- The results of an edit: empty entries and components (`struct cbfs_file` and `struct
-- cbfs_file_attr_hash`). This project's rules: the padding of a name field; an empty entry at a
-- region's end excludes the last four bytes, because older images have a pointer there; a gap and
-- the rest of a cell are 0xff.
use Rattle.std.specs.Prelude.{ℕ, ◌-◌, Bool, List, ◌++◌, drop, replicate, Option, Some, None, is_some, if◌then◌else◌, ◌≡◌, ◌+◌, ◌*◌, ◌/◌, ◌^◌, ◌<◌, ◌≤◌, ◌==◌, ◌||◌, false, [], ◌∷◌, length, IfSome}
use Rattle.flash_format.specs.Head.{head_bytes, round64}
use Rattle.std.specs.List.{find, list_any}
use Rattle.std.specs.Option.{option_copied, option_map_or}
use Rattle.std.specs.Str.{bytes_eq}
use lib.Chars.{codes}
use Rattle.byteorder.specs.Endian.{big_bytes}
use Rattle.flash_format.specs.declared.head.Head.{Head}
use Rattle.flash_format.specs.declared.digest.Algorithm.{Algorithm}
use Rattle.flash_format.specs.declared.digest.Algorithm.TheVariants.{Sha256, Sha512}
use Rattle.flash_format.specs.declared.digest.Digest.{Digest}
use Rattle.flash_format.specs.declared.digest.Digest.TheVariants as digests
use Rattle.flash_format.specs.declared.meta.Meta.{Meta}
use Rattle.flash_format.specs.Entry.{HASH, is_nul}

-- the unit of a name field's length
abbrev pub name_padding : ℕ
name_padding = 4

-- the head and an empty name
abbrev pub header_length : ℕ
header_length = 24 + name_padding

-- The head of an empty entry in a cell of the given size: its content is all that follows an empty
-- name. With `kept`, the content excludes the last four bytes.
abbrev pub empty_head : ℕ → Bool → Head
empty_head size kept = record {
  len = size - header_length - (if kept then 4 else 0);
  kind = 0xffffffff;
  attributes_offset = 0;
  offset = header_length;
}

-- the head and the empty name
unfoldable pub empty_header : ℕ → Bool → List ℕ
empty_header size kept = head_bytes (empty_head size kept) ++ replicate (header_length - 24) 0

-- n bytes 0xff, except preserved last bytes
abbrev pub padding : ℕ → Option (List ℕ) → List ℕ
padding n None = replicate n 0xff
padding n (Some last) = replicate (n - 4) 0xff ++ drop (4 - n) last

-- may preserve its last four bytes
abbrev pub empty_entry : ℕ → Option (List ℕ) → List ℕ
empty_entry size last = empty_header size (is_some last) ++ padding (size - header_length) last

-- the padded field of k bytes and a NUL
abbrev pub name_room : ℕ → ℕ
name_room k = (k / name_padding + 1) * name_padding

-- the padded field of a name: the name, and NULs
abbrev pub name_with_nuls : List ℕ → List ℕ
name_with_nuls name = name ++ replicate (name_room (length name) - length name) 0

-- without the gap
abbrev pub meta_length : ℕ → ℕ → ℕ
meta_length name_len attr_len = 24 + name_room name_len + attr_len

-- vboot's number (`enum vb2_hash_algorithm`), digest length, name
pub record AlgorithmRow : Type 0 where
  pub number : ℕ
  pub len : ℕ
  pub name : List ℕ

abbrev pub algorithm_row : Algorithm → AlgorithmRow
algorithm_row Sha256 = record { number = 2; len = 32; name = codes "sha256" }
algorithm_row Sha512 = record { number = 3; len = 64; name = codes "sha512" }

abbrev pub algorithms : List Algorithm
algorithms = Sha256 ∷ Sha512 ∷ []

abbrev pub algorithm_numbered : ℕ → Option Algorithm
algorithm_numbered number = find (λ a. (algorithm_row a).number == number) algorithms

abbrev pub algorithm_named : List ℕ → Option Algorithm
algorithm_named name = find (λ a. bytes_eq (algorithm_row a).name name) algorithms

abbrev pub digest_with : Algorithm → List ℕ → Digest
digest_with Sha256 bytes = digests.Sha256 bytes
digest_with Sha512 bytes = digests.Sha512 bytes

abbrev pub algorithm : Digest → Algorithm
algorithm (digests.Sha256 bytes) = Sha256
algorithm (digests.Sha512 bytes) = Sha512

abbrev pub digest_bytes : Digest → List ℕ
digest_bytes (digests.Sha256 bytes) = bytes
digest_bytes (digests.Sha512 bytes) = bytes

-- a hash attribute's contents: the algorithm's number and the digest
abbrev pub hash_contents : Digest → List ℕ
hash_contents d = big_bytes 4 (algorithm_row (algorithm d)).number ++ digest_bytes d

-- `struct cbfs_file_attr_hash`
unfoldable pub hash_attribute : Digest → List ℕ
hash_attribute d = big_bytes 4 HASH ++ big_bytes 4 (12 + length (digest_bytes d)) ++ hash_contents d

abbrev pub hash_bytes : Option Digest → List ℕ
hash_bytes digest = option_map_or hash_attribute digest []

-- the attribute's length, or 0
abbrev pub hash_len : Option Digest → ℕ
hash_len digest = option_map_or (λ d. 12 + (algorithm_row (algorithm d)).len) digest 0

abbrev pub IsDigest : Option Digest → Type 0
IsDigest digest = IfSome digest (λ d. length (digest_bytes d) ≡ (algorithm_row (algorithm d)).len)

-- ---- a component

module _ (name : List ℕ) (kind : ℕ) (digest : Option Digest) (gap : ℕ) where
  -- the head of a component with a content of n bytes; the attributes, if any, follow the name
  abbrev pub made_head : ℕ → Head
  made_head n = record {
    len = n;
    kind = kind;
    attributes_offset = if is_some digest then 24 + name_room (length name) else 0;
    offset = meta_length (length name) (length (hash_bytes digest)) + gap;
  }

  -- the bytes before a content of n bytes
  abbrev pub made_metadata : ℕ → List ℕ
  made_metadata n =
      head_bytes (made_head n)
      ++ name_with_nuls name
      ++ hash_bytes digest
      ++ replicate gap 0xff

  -- a component's cell, up to a multiple of 64; may preserve its last four bytes
  abbrev pub made : List ℕ → Option (List ℕ) → List ℕ
  made content last = let component = made_metadata (length content) ++ content in
      component ++ padding (round64 (length component) - length component) last

  -- the conditions under which a made cell decodes to its component
  pub record IsMade (content : List ℕ) : Type 0 where
    pub name_short : length name ≤ 127
    pub name_plain : list_any is_nul name ≡ false
    pub kind_small : kind < 2 ^ 32
    pub kind_used : (kind == 0 || kind == 0xffffffff) ≡ false
    pub digest_long : IsDigest digest
    pub small : length (made_metadata (length content)) + length content < 2 ^ 32

-- ---- from a description

abbrev pub described_len : Meta → ℕ
described_len m = meta_length (length m.name.now) (hash_len (option_copied m.digest)) + m.gap

abbrev pub metadata_of : Meta → List ℕ
metadata_of m = made_metadata m.name.now m.kind (option_copied m.digest) m.gap m.len
