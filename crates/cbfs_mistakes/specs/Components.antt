-- The line with the names of the components of a region.
use Rattle.std.specs.Prelude.{ℕ, List, [], ◌+◌, ◌/◌, length, map}
use Rattle.std.specs.Option.{option_map_or}
use lib.Chars.{codes}
use Rattle.flash_format.specs.Components.{Component, components}
use Rattle.flash_device.specs.Device.{Device}
use Rattle.flash_device.specs.Regions.{bytes_in}
use Rattle.flash_map.specs.Fmap.{map_reads}
use Rattle.flash_map.specs.Regions.{region_of}
use Rattle.cbfs_requests.specs.Requests.{fault_or}
use Rattle.cbfs_walk.specs.Shapes.{shape_fault}
use Rattle.cbfs_mistakes.specs.NameLines.{names_line}
use Rattle.cbfs_mistakes.specs.Near.{near_first}

-- the names that `print` lists: in the order of the region, up to a damage; none without a valid
-- shape
unfoldable pub component_names : List ℕ → List (List ℕ)
component_names x = option_map_or (λ fault. []) (shape_fault x)
    (map (λ (c : Component). c.name) (components x))

-- the line of the region with the name, if the image has the region; names near `given` come first
abbrev pub components_line : List ℕ → List ℕ → List ℕ → List ℕ
components_line image region given = fault_or (λ fault. [])
    (region_of image region)
    (λ range. names_line (codes "cbfstool: its components are: ")
    (near_first given (component_names (bytes_in range image))))

-- the maximum number of device calls: for the map and its areas, and for a region of the image
abbrev pub listing_reads : Device → ℕ
listing_reads device = map_reads device + length device.content / 24 + 2
