-- Literal images and components, to which the laws are applied. Numbers are bytes of the file, high
-- byte first in CBFS, and low byte first in a flash map.
use Rattle.std.specs.Prelude.{ℕ, false, List, [], ◌∷◌, ◌++◌, replicate}
use lib.Chars.{codes}
use Rattle.flash_map.specs.declared.search.FoundMap.{FoundMap}
use Rattle.cbfs_anchor.specs.declared.algorithm.Algorithm.TheVariants.{Sha1}
use Rattle.cbfs_anchor.specs.declared.anchor.Anchor.{Anchor}
use Rattle.cbfs_anchor.specs.declared.place.AnchorPlace.{AnchorPlace}
use Rattle.cbfs_anchor.specs.Layout.{magic}
use Rattle.cbfs_anchor.specs.Seals.{Survey, survey_by}

-- an empty entry of 64 bytes, without the last four
unfoldable pub free_cell : List ℕ
free_cell = codes "LARCHIVE" ++ (0 ∷ 0 ∷ 0 ∷ 32 ∷ 0xff ∷ 0xff ∷ 0xff ∷ 0xff ∷ 0 ∷ 0 ∷ 0 ∷ 0
    ∷ 0 ∷ 0 ∷ 0 ∷ 28 ∷ 0 ∷ 0 ∷ 0 ∷ 0 ∷ []) ++ replicate 36 0xff

-- a name with NULs, in 32 bytes
abbrev pub padded_name : List ℕ → ℕ → List ℕ
padded_name name padding = name ++ replicate padding 0

-- the areas FMAP from byte 0 on, of 192 bytes, and after it COREBOOT and BOOTBLOCK of 64 bytes
unfoldable pub small_map : List ℕ
small_map = codes "__FMAP__" ++ (1 ∷ 1 ∷ []) ++ replicate 8 0 ++ (0x40 ∷ 0x01 ∷ 0 ∷ 0 ∷ [])
    ++ padded_name (codes "FLASH") 27 ++ (3 ∷ 0 ∷ [])
    ++ (0 ∷ 0 ∷ 0 ∷ 0 ∷ 0xc0 ∷ 0 ∷ 0 ∷ 0 ∷ []) ++ padded_name (codes "FMAP") 28 ++ (0 ∷ 0 ∷ [])
    ++ (0xc0 ∷ 0 ∷ 0 ∷ 0 ∷ 0x40 ∷ 0 ∷ 0 ∷ 0 ∷ []) ++ padded_name (codes "COREBOOT") 24
    ++ (0 ∷ 0 ∷ []) ++ (0 ∷ 1 ∷ 0 ∷ 0 ∷ 0x40 ∷ 0 ∷ 0 ∷ 0 ∷ []) ++ padded_name (codes "BOOTBLOCK") 23
    ++ (0 ∷ 0 ∷ [])

abbrev pub small_found : FoundMap
small_found = record {
  at = 0;
  head = record {
    major = 1;
    minor = 1;
    base = 0;
    size = 320;
    name = padded_name (codes "FLASH") 27;
    nareas = 3;
  };
}

-- an anchor of SHA-1 with zeros for digests, in 64 bytes
unfoldable pub unsealed_anchor : List ℕ
unsealed_anchor = magic ++ (0 ∷ 0 ∷ 0 ∷ 1 ∷ []) ++ replicate 40 0 ++ replicate 12 0xff

-- an image of 320 bytes: the map, erased bytes, free space in COREBOOT, and the anchor
unfoldable pub small_image : List ℕ
small_image = small_map ++ replicate 10 0xff ++ free_cell ++ unsealed_anchor

abbrev pub small_anchor : Anchor
small_anchor = record { at = 256; algorithm = Sha1 }

-- the digests of no metadata, and of the 182 bytes of the map
abbrev pub small_survey : Survey
small_survey = survey_by small_anchor [] small_map

abbrev pub small_place : AnchorPlace
small_place = record {
  map = record { start = 0; size = 182 };
  coreboot = record { start = 192; size = 64 };
  anchor = record { start = 256; size = 64 };
  in_component = false;
}

-- the component of this name and type raw, with four bytes of content, in 64 bytes
unfoldable pub named_cell : ℕ → List ℕ
named_cell name = codes "LARCHIVE"
    ++ (0 ∷ 0 ∷ 0 ∷ 4 ∷ 0 ∷ 0 ∷ 0 ∷ 0x50 ∷ 0 ∷ 0 ∷ 0 ∷ 0 ∷ 0 ∷ 0 ∷ 0 ∷ 28
    ∷ name ∷ 0 ∷ 0 ∷ 0 ∷ []) ++ codes "DATA" ++ replicate 32 0xff
