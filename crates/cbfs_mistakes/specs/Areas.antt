-- The line with the names of the areas of a flash map.
use Rattle.std.specs.Prelude.{ℕ, List, [], map}
use Rattle.std.specs.Option.{option_map_or}
use lib.Chars.{codes}
use Rattle.flash_format.specs.Flashmap.{text_of}
use Rattle.flash_format.specs.declared.flashmap.Area.{Area}
use Rattle.flash_map.specs.Fmap.{areas_of, found_in}
use Rattle.flash_map.specs.declared.search.FoundMap.{FoundMap}
use Rattle.cbfs_mistakes.specs.NameLines.{names_line}
use Rattle.cbfs_mistakes.specs.Near.{near_first}

-- the names of the areas, each up to the first NUL, in the order of the map
abbrev pub area_names : List ℕ → FoundMap → List (List ℕ)
area_names image m = map (λ (area : Area). text_of area.name) (areas_of image m)

-- the line of the map that the search finds, if any; names near `given` come first
abbrev pub areas_line : List ℕ → List ℕ → List ℕ
areas_line image given = option_map_or (λ m. names_line (codes "cbfstool: its areas are: ")
    (near_first given (area_names image m))) (found_in image) []
