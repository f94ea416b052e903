use Rattle.std.proofs.Common.{Ok, ap, inl, refl, arith, rules}
use Rattle.std.proofs.lemmas.Result.{err_from_is_err_and}
use Rattle.flash_device.specs.Regions.{bytes_in}
use Rattle.flash_device.proofs.DeviceLemmas.{length-bytes_in}
use Rattle.flash_device.proofs.WindowLemmas.{HasRead-none, HasRead-within}
use Rattle.cbfs_edit.specs.Rooms.{room_of}
use Rattle.cbfs_edit.specs.Searches.{IsRoomSurvey, room_by}
use Rattle.cbfs_edit.proofs.Searches.{surveying_start, surveying_more, searched, surveying_err}
use Rattle.cbfs_edit.proofs.Rooms.{no_room_left, nothing_seen, room_searched}
use Rattle.cbfs_edit.proofs.room.find_room.Goals as goal

pub loop-cell-init : goal.loop-cell-init
loop-cell-init g c =
    let r = c.args.region in
    let x = bytes_in r c.args.paged.now.device.content in
    rw c.new-walk.ensures (surveying_start r (λ s at cells. Ok (room_by c.args.empty r.size s cells)) (room_of c.args.empty) (IsRoomSurvey c.args.empty r.size) nothing_seen c.args.paged.now
    (record { spot = c.requires.spot; small = omega (arith, c.requires.region.inside, c.requires.region.below); here = refl; row = inl refl })
    (room_searched x c.args.empty r.size (length-bytes_in r _ c.requires.region.inside)))

pub loop-cell-preserved : goal.loop-cell-preserved
loop-cell-preserved g c =
    let mid = c.next.new.paged in
    surveying_more c.args.region (λ s at cells. Ok (room_by c.args.empty c.args.region.size s cells)) _ (IsRoomSurvey c.args.empty c.args.region.size) c.loop-cell.walk c.loop-cell.survey _ _ c.requires.region c.loop-cell.invariant c.in-Cell.cell _ c.room_over-survey.result _ _ _
    (rw c.in-Cell.is at c.in_ok-cell.ensures.cell) (rw c.in-Cell.is at c.in_ok-cell.ensures.calls) refl (HasRead-within 0 1 0 mid mid (omega arith) (HasRead-none mid)) (rw c.in-Cell.is at c.in_ok-cell.ensures.answer) (rw c.in-Cell.is at c.in_ok-cell.ensures.moved) c.room_over-survey.ensures.before
    (λ honest stands cells. ap (λ o. Ok o) (c.room_over-survey.ensures.passed mid.device.content (omega arith) stands cells))

pub returns-in-Tail : goal.returns-in-Tail
returns-in-Tail g c =
    searched c.args.region (λ s at cells. Ok (room_by c.args.empty c.args.region.size s cells)) _ _ c.loop-cell.walk c.loop-cell.survey _ _ c.requires.region c.loop-cell.invariant _ c.in-Tail.is _ _ (Ok c.room_so_far.result)
    tt tt (ap (λ o. Ok o) (no_room_left c.args.empty c.args.region.size c.loop-cell.survey _ c.room_so_far.ensures)) c.in_ok-cell.ensures.calls c.in_ok-cell.ensures.answer

pub returns-in_err-cell : goal.returns-in_err-cell
returns-in_err-cell g c =
    let told = err_from_is_err_and c.from_residual.result c.from_residual.ensures.1 in
    rw (told.1, told.2) (record {
      after = search rules;
      no_source = search rules;
      found = search rules;
      answer = surveying_err c.args.region (λ s at cells. Ok (room_by c.args.empty c.args.region.size s cells)) _ _ c.loop-cell.walk c.loop-cell.survey _ _ c.requires.region c.loop-cell.invariant c.in_err-cell.field-0.0 c.in_err-cell.ensures.answer;
    })
