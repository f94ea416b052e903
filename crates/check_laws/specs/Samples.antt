-- Literal regions and images, to which the laws are applied. Numbers are bytes of the file, high
-- byte first in CBFS, and low byte first in a flash map.
use Rattle.std.specs.Prelude.{ℕ, false, None, List, [], ◌∷◌, ◌++◌, replicate}
use lib.Chars.{codes}
use Rattle.flash_format.specs.declared.flashmap.Area.{Area}
use Rattle.flash_map.specs.declared.search.FoundMap.{FoundMap}
use Rattle.check_findings.specs.declared.areas.NumberedArea.{NumberedArea}
use Rattle.check_findings.specs.declared.region.finding.Content.{Content}
use Rattle.check_findings.specs.declared.region.finding.HashFinding.TheVariants.{Missing}
use Rattle.check_findings.specs.declared.region.finding.RegionFinding.{RegionFinding}
use Rattle.check_findings.specs.declared.region.finding.RegionFinding.TheVariants.{Component}
use Rattle.check_findings.specs.declared.image.finding.ImageFinding.{ImageFinding}
use Rattle.check_findings.specs.declared.image.finding.ImageFinding.TheVariants.{Region}

-- the component `a` of type raw: 28 bytes before the content, the content `DATA`, up to byte 64
unfoldable pub component_cell : List ℕ
component_cell = codes "LARCHIVE"
    ++ (0 ∷ 0 ∷ 0 ∷ 4 ∷ 0 ∷ 0 ∷ 0 ∷ 0x50 ∷ 0 ∷ 0 ∷ 0 ∷ 0 ∷ 0 ∷ 0 ∷ 0 ∷ 28
    ∷ 97 ∷ 0 ∷ 0 ∷ 0 ∷ []) ++ codes "DATA" ++ replicate 32 0xff

-- an empty entry of 64 bytes at a region's end, without the last four
unfoldable pub free_cell : List ℕ
free_cell = codes "LARCHIVE" ++ (0 ∷ 0 ∷ 0 ∷ 32 ∷ 0xff ∷ 0xff ∷ 0xff ∷ 0xff ∷ 0 ∷ 0 ∷ 0 ∷ 0
    ∷ 0 ∷ 0 ∷ 0 ∷ 28 ∷ 0 ∷ 0 ∷ 0 ∷ 0 ∷ []) ++ replicate 36 0xff

-- a component, and free space
unfoldable pub small_region : List ℕ
small_region = component_cell ++ free_cell

-- a name with NULs, in 32 bytes
abbrev pub area_name : List ℕ → ℕ → List ℕ
area_name name padding = name ++ replicate padding 0

abbrev pub named_area : List ℕ → ℕ → ℕ → ℕ → Area
named_area name padding offset size =
    record { offset = offset; size = size; name = area_name name padding; flags = 0 }

-- the area FMAP from byte 0 on, of 192 bytes, and COREBOOT after it, of 128 bytes
unfoldable pub small_map : List ℕ
small_map = codes "__FMAP__" ++ (1 ∷ 1 ∷ []) ++ replicate 8 0 ++ (0x40 ∷ 0x01 ∷ 0 ∷ 0 ∷ [])
    ++ area_name (codes "FLASH") 27 ++ (2 ∷ 0 ∷ [])
    ++ (0 ∷ 0 ∷ 0 ∷ 0 ∷ 0xc0 ∷ 0 ∷ 0 ∷ 0 ∷ []) ++ area_name (codes "FMAP") 28 ++ (0 ∷ 0 ∷ [])
    ++ (0xc0 ∷ 0 ∷ 0 ∷ 0 ∷ 0x80 ∷ 0 ∷ 0 ∷ 0 ∷ []) ++ area_name (codes "COREBOOT") 24 ++ (0 ∷ 0 ∷ [])

-- an image of 320 bytes: the map, erased bytes, and the region
unfoldable pub small_image : List ℕ
small_image = small_map ++ replicate 52 0xff ++ small_region

abbrev pub small_found : FoundMap
small_found = record {
  at = 0;
  head = record {
    major = 1;
    minor = 1;
    base = 0;
    size = 320;
    name = area_name (codes "FLASH") 27;
    nareas = 2;
  };
}

abbrev pub coreboot_area : NumberedArea
coreboot_area = record { number = 1; area = named_area (codes "COREBOOT") 24 192 128 }

-- ---- findings

-- the area A of 128 bytes has this finding
abbrev pub found_in_area : RegionFinding → List ImageFinding
found_in_area finding = Region (record {
  number = 0;
  area = named_area (codes "A") 31 0 128;
}) None (finding ∷ []) ∷ []

abbrev pub content_from : ℕ → ℕ → Content
content_from start len = record {
  start = start;
  kind = 0x50;
  len = len;
  compression = 0;
  hash = Missing;
  stored = None;
  fault = None;
}

-- the area A has the component `a`, whose content has these bytes
abbrev pub found_content : ℕ → ℕ → List ImageFinding
found_content start len = found_in_area (Component 0 (codes "a") false (content_from start len))

-- ---- an area of two images

-- 4 bytes from byte 2 on
abbrev pub inner_area : NumberedArea
inner_area = record { number = 0; area = named_area (codes "A") 31 2 4 }
