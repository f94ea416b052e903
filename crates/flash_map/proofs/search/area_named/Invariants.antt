use Rattle.std.proofs.Common.{◌≡◌, ◌-◌, ◌+◌, ◌*◌, drop, IsTrue}
use Rattle.std.specs.List.{find}
use Rattle.flash_format.specs.Flashmap.{areas_from, is_area}
use Rattle.flash_device.specs.Pages.{HasRead}
use Rattle.flash_map.proofs.search.area_named.Given as goal

abbrev pub invariant-loop-i : goal.invariant-loop-i
invariant-loop-i g l =
    let old = l.initial.paged.device in
    HasRead l.i 0 l.initial.paged l.paged
    × (IsTrue old.honest → find (is_area l.name) (areas_from (l.map.head.nareas - l.i) (drop (l.map.at + 56 + 42 * l.i) old.content))
    ≡ find (is_area l.name) (areas_from l.map.head.nareas (drop (l.map.at + 56) old.content)))
