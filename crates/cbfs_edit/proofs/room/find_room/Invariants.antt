use Rattle.std.proofs.Common.{◌-◌, Ok}
use Rattle.cbfs_edit.specs.Rooms.{room_of}
use Rattle.cbfs_edit.specs.Searches.{IsRoomSurvey, room_by}
use Rattle.cbfs_edit.proofs.Searches.{Surveying}
use Rattle.cbfs_edit.proofs.room.find_room.Given as goal

abbrev pub invariant-loop-cell : goal.invariant-loop-cell
invariant-loop-cell g l =
    let size = l.fn.region.size in
    Surveying l.fn.region (λ s at cells. Ok (room_by l.empty size s cells)) (room_of l.empty) (IsRoomSurvey l.empty size) l.walk l.survey l.initial.paged l.paged

abbrev pub decreases-loop-cell : goal.decreases-loop-cell
decreases-loop-cell g l = l.walk.region.size - l.walk.at
