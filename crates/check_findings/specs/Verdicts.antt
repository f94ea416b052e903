-- The verdict on a finding: bad, or a remark. A bad finding breaks a command or the boot, or
-- reports that a requested check could not be performed.
use Rattle.std.specs.Prelude.{ℕ, ◌-◌, Bool, true, false, not, ◌&&◌, ◌||◌, ◌==◌, List, Option, is_some, nat_le, nat_lt}
use Rattle.std.specs.List.{list_any}
use Rattle.std.specs.Option.{option_map_or}
use Rattle.std.specs.Str.{bytes_eq}
use lib.Chars.{codes}
use Rattle.cbfs_anchor.specs.Algorithms.{algorithm_numbered, digest_len}
use Rattle.cbfs_anchor.specs.Metadata.{bootblock_type, has_hash_of, header_type, longest_metadata}
use Rattle.cbfs_anchor.specs.declared.anchor.Anchor.{Anchor}
use Rattle.cbfs_anchor.specs.declared.demand.StoredHash.{StoredHash}
use Rattle.check_findings.specs.declared.anchor.finding.AnchorFinding.{AnchorFinding}
use Rattle.check_findings.specs.declared.anchor.finding.AnchorFinding.TheVariants as of_anchor
use Rattle.check_findings.specs.declared.image.verdict.HashRules.{HashRules}
use Rattle.check_findings.specs.declared.map.finding.MapFinding.{MapFinding}
use Rattle.check_findings.specs.declared.map.finding.MapFinding.TheVariants as of_map
use Rattle.check_findings.specs.declared.region.finding.Content.{Content}
use Rattle.check_findings.specs.declared.region.finding.HashFinding.{HashFinding}
use Rattle.check_findings.specs.declared.region.finding.HashFinding.TheVariants as hashes
use Rattle.check_findings.specs.declared.region.finding.RegionFinding.{RegionFinding}
use Rattle.check_findings.specs.declared.region.finding.RegionFinding.TheVariants as of_region
use Rattle.check_findings.specs.declared.image.finding.ImageFinding.{ImageFinding}
use Rattle.check_findings.specs.declared.image.finding.ImageFinding.TheVariants.{Anchor as OfAnchor, Map, Region}
use Rattle.check_findings.specs.declared.image.finding.ImageFinding.TheVariants.{NotChecked, NoArea}

-- A finding of the map is bad if the image has no map or another size than its map says, if an
-- area is outside of the image, overlaps another or has the name of an earlier one, if the area
-- FMAP doesn't begin with the map, or if overlaps were not searched. The map itself, a further map,
-- empty areas and names that aren't text are remarks.
abbrev pub is_bad_map : MapFinding → Bool
is_bad_map of_map.NoMap = true
is_bad_map of_map.OtherSize = true
is_bad_map (of_map.AreaOutside a) = true
is_bad_map (of_map.SameName a first) = true
is_bad_map (of_map.Overlap a other) = true
is_bad_map of_map.TooManyAreas = true
is_bad_map (of_map.MapAreaMisses a) = true
is_bad_map (of_map.Map map) = false
is_bad_map (of_map.OtherMap map) = false
is_bad_map (of_map.AreaEmpty a) = false
is_bad_map (of_map.AreaNameNotText a) = false

-- A finding of the anchor is bad if a digest of the anchor isn't that of the image, or if no digest
-- was compared: COREBOOT is damaged, or the anchor can't be used.
abbrev pub is_bad_anchor : AnchorFinding → Bool
is_bad_anchor (of_anchor.Metadata spot algorithm valid) = not valid
is_bad_anchor (of_anchor.FlashMap spot algorithm valid) = not valid
is_bad_anchor (of_anchor.NotChecked spot) = true
is_bad_anchor (of_anchor.UnknownAlgorithm bootblock) = true
is_bad_anchor (of_anchor.CutOff bootblock) = true

-- ---- components

-- The metadata of a component, which are the bytes of its entry before the content, are too long
-- for the firmware: it can't find the component. The entry begins at `at`.
abbrev pub has_long_metadata : ℕ → Content → Bool
has_long_metadata at c = nat_lt longest_metadata (c.start - at)

-- stages, payloads and fsp: only the firmware loads them
abbrev pub is_firmware : ℕ → Bool
is_firmware kind =
    kind == 0x10 || kind == 0x11 || kind == 0x20 || kind == 0x21 || kind == 0x60

-- the firmware needs no digest of a bootblock and a cbfs header
abbrev pub is_exempt : ℕ → Bool
is_exempt kind = kind == bootblock_type || kind == header_type

-- the hash attribute has the number of an algorithm that anchors can have, and room for its digest
abbrev pub is_digest_of_some_algorithm : StoredHash → Bool
is_digest_of_some_algorithm h =
    option_map_or (λ a. nat_le (digest_len a) h.len) (algorithm_numbered h.number) false

-- a component's hash attribute, if any, has a digest of any algorithm that anchors can have
abbrev pub has_digest_of_some_algorithm : Option StoredHash → Bool
has_digest_of_some_algorithm stored = option_map_or is_digest_of_some_algorithm stored false

-- under an anchor, the firmware refuses to load a component of its own types without a digest
abbrev pub firmware_refuses : HashRules → Content → Bool
firmware_refuses rules c = is_some rules.anchor
    && (is_firmware c.kind && not (has_digest_of_some_algorithm c.stored))

-- The user requires a digest of the component. A bootblock is exempt nevertheless: if a bootblock
-- contains an anchor, the bootblock's digest would depend on the anchor, and the anchor on the
-- digest. A cbfs header is exempt too, because the firmware compares no digest of the header.
abbrev pub is_required : HashRules → Content → Bool
is_required rules c = rules.needs_all && not (is_exempt c.kind)

-- The component has to have a digest, by the user's request or for the firmware. The predicate is
-- no verdict. It decides whether the report names a missing digest at all, as a remark or as bad.
abbrev pub needs_hash : HashRules → Content → Bool
needs_hash rules c = (rules.needs_all || is_some rules.anchor) && not (is_exempt c.kind)

-- under an anchor, a component has a hash attribute, but no digest of the anchor's algorithm in it
abbrev pub has_hash_not_of_anchor : HashRules → Content → Bool
has_hash_not_of_anchor rules c = option_map_or (λ (a : Anchor). is_some c.stored
    && not (has_hash_of a.algorithm c.stored)) rules.anchor false

-- ifittool changes the content of `intel_fit` after coreboot's tool has stored the digest
abbrev pub changes_later : Option Anchor → List ℕ → Bool
changes_later anchor name = is_some anchor && bytes_eq name (codes "intel_fit")

-- The state of a component's digest is bad if the digest doesn't match the content, except for a
-- content that changes later. A missing digest, or a digest of an unsupported algorithm, is bad if
-- the user requires a digest or the firmware refuses the component.
abbrev pub is_bad_hash_state : HashRules → List ℕ → Content → HashFinding → Bool
is_bad_hash_state rules name c (hashes.Invalid algorithm) = not (changes_later rules.anchor name)
is_bad_hash_state rules name c (hashes.Valid algorithm) = false
is_bad_hash_state rules name c hashes.Missing = is_required rules c || firmware_refuses rules c
is_bad_hash_state rules name c hashes.Unsupported = is_required rules c || firmware_refuses rules c

-- the digest of the component with this name and content is bad
abbrev pub is_bad_hash : HashRules → List ℕ → Content → Bool
is_bad_hash rules name c = is_bad_hash_state rules name c c.hash

-- A finding of a region is bad if commands refuse the region, if an entry is damaged, if a
-- component can't be found, has a bad digest or has attributes with a fault, or if the tail has
-- filled bytes or entries. The tail has to be unused, because no command lists its entries.
-- Remarks are: a size other than a multiple of 64, which coreboot's tools and firmware can read;
-- entries up to the end of the region or up to a tail; deleted components; and the counts.
abbrev pub is_bad_region : HashRules → RegionFinding → Bool
is_bad_region rules of_region.BadSize = true
is_bad_region rules of_region.NotCbfs = true
is_bad_region rules (of_region.Component at name shadowed c) =
    shadowed || (has_long_metadata at c || (is_bad_hash rules name c || is_some c.fault))
is_bad_region rules (of_region.TailFilled at) = true
is_bad_region rules (of_region.TailEntry at) = true
is_bad_region rules (of_region.Damaged at kind) = true
is_bad_region rules (of_region.Deleted at) = false
is_bad_region rules of_region.Complete = false
is_bad_region rules (of_region.Tail at) = false
is_bad_region rules (of_region.Components n) = false
is_bad_region rules (of_region.FreeBytes n) = false
is_bad_region rules (of_region.LargestContent n) = false
is_bad_region rules of_region.UnalignedSize = false

-- ---- the image

-- the rules of a region: whether the user requires digests, and the anchor
abbrev pub rules_of : Bool → Option Anchor → HashRules
rules_of needs_all anchor = record { needs_all = needs_all; anchor = anchor }

-- A finding of an image is bad if the finding is a bad finding of the map or the anchor, if a
-- checked area has a bad finding, or if an expected area was not checked or doesn't exist.
-- `needs_all` says whether the user requires digests.
abbrev pub is_bad : Bool → ImageFinding → Bool
is_bad needs_all (Map finding) = is_bad_map finding
is_bad needs_all (OfAnchor finding) = is_bad_anchor finding
is_bad needs_all (Region a anchor findings) =
    list_any (is_bad_region (rules_of needs_all anchor)) findings
is_bad needs_all (NotChecked a expected) = expected
is_bad needs_all (NoArea number) = true
