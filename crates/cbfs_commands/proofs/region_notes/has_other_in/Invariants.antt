use Rattle.std.proofs.Common.{◌≡◌, ◌-◌, ◌+◌, ◌*◌, IsTrue}
use Rattle.flash_device.specs.Pages.{HasRead}
use Rattle.cbfs_commands.specs.MapNotes.{is_other_in}
use Rattle.cbfs_commands.proofs.OtherAreas.{any_from}
use Rattle.cbfs_commands.proofs.region_notes.has_other_in.Given as goal

abbrev pub invariant-loop-i : goal.invariant-loop-i
invariant-loop-i g l =
    let old = l.initial.paged.device in
    let is = is_other_in l.region l.name in
    HasRead l.i 0 l.initial.paged l.paged
    × (IsTrue old.honest → any_from is old.content (l.map.head.nareas - l.i) (l.map.at + 56 + 42 * l.i)
    ≡ any_from is old.content l.map.head.nareas (l.map.at + 56))
