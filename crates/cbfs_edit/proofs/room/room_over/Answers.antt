use Rattle.std.proofs.Common.{◌∙◌, ap, sym}
use Rattle.flash_format.specs.Head.{is_free}
use Rattle.cbfs_edit.proofs.Rooms.{room_free_step, room_step}
use Rattle.cbfs_edit.proofs.room.room_over.Goals as goal

pub returns-then-is_free-clause-passed : goal.returns-then-is_free-clause-passed
returns-then-is_free-clause-passed c = λ image lies stands cells.
    let b = c.cells_stand_in_their_image.ensures c.args.region image c.args.cell.now lies c.requires.cell stands in
    room_free_step c.args.empty c.args.region.size c.args.survey _ cells c.args.cell.now.span (ap is_free b.head ∙ sym c.is_free.ensures ∙ c.if-is_free.true) b.span

pub returns-clause-passed : goal.returns-clause-passed
returns-clause-passed c = λ image lies stands cells.
    let b = c.cells_stand_in_their_image.ensures c.args.region image c.args.cell.now lies c.requires.cell stands in
    room_step c.args.empty c.args.region.size c.args.survey _ cells c.args.cell.now.span _ (ap is_free b.head ∙ sym c.is_free.ensures ∙ c.if-is_free.false) b.span c.room_so_far.ensures
