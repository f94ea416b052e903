use Rattle.std.proofs.Common.{◌≡◌, ◌-◌, ◌+◌, ◌*◌, ◌++◌, drop, map, IsTrue}
use Rattle.flash_format.specs.Flashmap.{areas_from, text_of}
use Rattle.flash_format.specs.declared.flashmap.Area.{Area}
use Rattle.flash_device.specs.Pages.{HasRead}
use Rattle.cbfs_mistakes.specs.Areas.{area_names}
use Rattle.cbfs_mistakes.proofs.areas.area_names.Given as goal

abbrev pub invariant-loop-i : goal.invariant-loop-i
invariant-loop-i g l =
    let old = l.initial.paged.device in
    HasRead l.i 0 l.initial.paged l.paged
    × (IsTrue old.honest → map (λ name. name.items) l.names.items
    ++ map (λ (area : Area). text_of area.name) (areas_from (l.found.head.nareas - l.i) (drop (l.found.at + 56 + 42 * l.i) old.content))
    ≡ area_names old.content l.found)
