-- The rows of a flashmap's areas.
use Rattle.std.proofs.lemmas.Grind.{common_steps}
use Rattle.std.proofs.Common.{◌≡◌, ℕ, ◌+◌, ◌-◌, ◌*◌, ◌<◌, ◌≤◌, List, [], ◌++◌, drop, suc, ap, ◌∙◌, arith, Some}
use Rattle.std.specs.List.{flat_map}
use Rattle.std.proofs.lemmas.List.{drop-drop}
use Rattle.flash_format.specs.declared.flashmap.Area.{Area}
use Rattle.flash_format.specs.Flashmap.{area_of, areas_from}
use Rattle.flash_map.specs.Fmap.{found_in}
use Rattle.flash_map.specs.declared.search.FoundMap.{FoundMap}
use Rattle.cbfs_commands.specs.Rows.{area_line, map_line}
use Rattle.cbfs_commands.specs.Outcomes.{layout}
use Rattle.cbfs_commands.proofs.OutputParts.{text_then}
use Rattle.cbfs_commands.specs.Outcomes.{Printout, shows}

abbrev pub rows_of : List ℕ → ℕ → ℕ → List ℕ
rows_of image n at = flat_map area_line (areas_from n (drop at image))

-- the output from an area on
abbrev pub rows_left : List ℕ → ℕ → ℕ → ℕ → Printout
rows_left image at n i = shows (rows_of image (n - i) (at + 42 * i))

pub one_less : (image : List ℕ) (at n i : ℕ) (area : Area) → i < n → area ≡ area_of (drop (at + 42 * i) image) → rows_left image at n i ≡ text_then (area_line area) (rows_left image at n (i + 1))
unfolding areas_from
one_less image at n i area lt is =
    let more : n - i ≡ suc (n - (i + 1)) = omega arith in
    let next : at + 42 * i + 42 ≡ at + 42 * (i + 1) = omega arith in
    rw is (ap (λ j. shows (rows_of image j (at + 42 * i))) more
    ∙ ap (λ (l : List ℕ). shows (area_line (area_of (drop (at + 42 * i) image)) ++ flat_map area_line (areas_from (n - (i + 1)) l))) (drop-drop 42 (at + 42 * i) image ∙ ap (λ q. drop q image) next))

pub every : (image : List ℕ) (at n : ℕ) → shows (rows_of image n at) ≡ rows_left image at n 0
every image at n = let none : at ≡ at + 42 * 0 = omega arith in let all : n ≡ n - 0 = omega arith in cc

pub none_left : (image : List ℕ) (at n i : ℕ) → n ≤ i → rows_left image at n i ≡ shows []
unfolding areas_from
none_left image at n i le = let none : n - i ≡ 0 = omega arith in ap (λ j. shows (rows_of image j (at + 42 * i))) none

-- the map's row, then the areas' rows
pub layout-is : (image : List ℕ) (map : FoundMap) → Some map ≡ found_in image → layout image ≡ text_then (map_line map) (shows (rows_of image map.head.nareas (map.at + 56)))
unfolding layout
layout-is image map is = grind (arith, common_steps)
