-- Regions of an image, by the name of the area.
use Rattle.std.specs.Prelude.{ℕ, List, length, Option, Some, None, Result, Ok, Err, nat_lt, if◌then◌else◌}
use Rattle.std.specs.Option.{option_map_or}
use Rattle.flash_format.specs.declared.flashmap.Area.{Area}
use Rattle.flash_format.specs.Flashmap.{area_end}
use Rattle.flash_device.specs.Regions.{Range}
use Rattle.flash_map.specs.Fmap.{areas_of, first_area, found_in}
use Rattle.flash_map.specs.declared.search.StoreFault.{StoreFault}
use Rattle.flash_map.specs.declared.search.StoreFault.TheVariants as faults

-- device faults in an error
abbrev pub by_device : StoreFault → ℕ
by_device faults.Device = 1
by_device _ = 0

-- the region of an area in an image of `image_len` bytes, or the error
abbrev pub region_by_area : ℕ → Option Area → Result Range StoreFault
region_by_area image_len None = Err faults.NoRegion
region_by_area image_len (Some a) = if nat_lt image_len (area_end a)
    then Err faults.RegionOutside else Ok (record { start = a.offset; size = a.size })

-- the region of the first area with the name in the image's flash map, or the error
unfoldable pub region_of : List ℕ → List ℕ → Result Range StoreFault
region_of image name = option_map_or
    (λ map. region_by_area (length image) (first_area (areas_of image map) name))
    (found_in image) (Err faults.NoFmap)
