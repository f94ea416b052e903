use Rattle.std.proofs.Common.{◌≡◌, ◌-◌, ◌+◌, ◌*◌, ◌/◌, ◌≤◌, length, All, IsTrue}
use Rattle.std.specs.Prelude.{fold}
use Rattle.flash_device.specs.Device.{Calls}
use Rattle.flash_device.specs.Laws.{with_edit}
use Rattle.cbfs_edit.specs.Changes.{formatted}
use Rattle.cbfs_commands.specs.Creations.{IsPlace}
use Rattle.cbfs_commands.proofs.create.creation.format_all.Given as goal

abbrev pub invariant-loop-places : goal.invariant-loop-places
invariant-loop-places g l =
    All (IsPlace (length l.initial.paged.device.content)) l.places
    × (length l.places ≤ length l.initial.places)
    × Calls ((length l.initial.places - length l.places) * (length l.initial.paged.device.content / 4096 + 2)) 0 l.initial.paged.device l.paged.device
    × (IsTrue l.initial.paged.device.honest → fold (λ x place. with_edit place formatted x) l.initial.paged.device.content l.initial.places ≡ fold (λ x place. with_edit place formatted x) l.paged.device.content l.places)

abbrev pub decreases-loop-places : goal.decreases-loop-places
decreases-loop-places g l = length l.places
