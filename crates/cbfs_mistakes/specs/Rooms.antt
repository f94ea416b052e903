-- The line on a content that does not fit into a region, and on the largest content that fits.
use Rattle.std.specs.Prelude.{ℕ, List, [], ◌++◌, ◌+◌, ◌/◌, length, Option}
use Rattle.std.specs.Fmt.{decimal}
use Rattle.std.specs.Option.{option_map_or}
use lib.Chars.{codes}
use Rattle.flash_device.specs.Device.{Device}
use Rattle.flash_device.specs.Regions.{bytes_in}
use Rattle.flash_map.specs.Fmap.{map_reads}
use Rattle.flash_map.specs.Regions.{region_of}
use Rattle.cbfs_edit.specs.Rooms.{largest_content_in}
use Rattle.cbfs_requests.specs.Requests.{Request, add, fault_or, on_region}

-- the length of the largest content that fits, or a note that not even an empty content fits
abbrev pub largest_text : Option ℕ → List ℕ
largest_text largest = option_map_or
    (λ n. codes "the largest that fits is " ++ decimal n ++ codes " bytes\n")
    largest (codes "not even an empty content fits\n")

abbrev pub room_text : ℕ → Option ℕ → List ℕ
room_text len largest = (codes "cbfstool: the content has " ++ decimal len ++ codes " bytes, and ")
    ++ largest_text largest

-- the line of an addition to a sound region of the image, for a content of `len` bytes
abbrev pub room_line : List ℕ → Request → ℕ → List ℕ
room_line image (on_region region (add name kind hash spot)) len =
    fault_or (λ fault. []) (region_of image region) (λ range.
    fault_or (λ fault. []) (largest_content_in (bytes_in range image) name kind hash spot)
    (room_text len))
room_line image request len = []

-- the maximum number of device calls
abbrev pub room_reads : Device → ℕ
room_reads device = map_reads device + length device.content / 16 + 1
