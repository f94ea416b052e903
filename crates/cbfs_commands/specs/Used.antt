-- The flash map and the region that a command has used.
use Rattle.std.specs.Prelude.{◌≡◌, List, ℕ, Option, Some, Ok}
use Rattle.flash_device.specs.Regions.{Range}
use Rattle.flash_map.specs.Fmap.{found_in}
use Rattle.flash_map.specs.Regions.{region_of}
use Rattle.flash_map.specs.declared.search.FoundMap.{FoundMap}
use Rattle.cbfs_commands.specs.declared.mapped.Used.{Used}

-- the flash map of the image, and its region with the name
pub record HasUsed (image name : List ℕ) (used : Option Used) : Type 0 where
  pub map : FoundMap
  pub region : Range
  pub found : found_in image ≡ Some map
  pub named : region_of image name ≡ Ok region
  pub is : used ≡ Some (record { map = map; region = region })
