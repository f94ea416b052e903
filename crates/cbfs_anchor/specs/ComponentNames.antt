-- The name of a component, by its position.
use Rattle.std.specs.Prelude.{ℕ, ◌+◌, List, [], take, drop}
use Rattle.std.specs.List.{before_first}
use Rattle.std.specs.Option.{option_map_or}
use Rattle.std.specs.Result.{result_ok}
use lib.Chars.{codes}
use Rattle.flash_format.specs.Entry.{is_nul}
use Rattle.flash_device.specs.Regions.{Range}
use Rattle.flash_map.specs.Regions.{region_of}

-- the bytes after a component's head, up to the first NUL, at most 256
abbrev pub name_from : ℕ → List ℕ → List ℕ
name_from start image = before_first is_nul (take 256 (drop (start + 24) image))

-- at a position of COREBOOT; no bytes if there is no COREBOOT
unfoldable pub name_at : ℕ → List ℕ → List ℕ
name_at at image = option_map_or (λ (coreboot : Range). name_from (coreboot.start + at) image)
    (result_ok (region_of image (codes "COREBOOT"))) []
