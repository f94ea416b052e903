use Rattle.std.proofs.Common.{[], ◌∙◌, refl, rules}
use Rattle.flash_device.specs.Regions.{bytes_in}
use Rattle.cbfs_edit.proofs.AdditionLemmas.{no_fault}
use Rattle.cbfs_edit.proofs.Rooms.{answered, exact_result}
use Rattle.cbfs_edit.proofs.room.largest_content.Goals as goal

pub find_room-requires-clause-spot : goal.find_room-requires-clause-spot
find_room-requires-clause-spot g c = rw (c.wanted_of.ensures c.args.kind [] refl) (search rules)

pub returns-clause-answer : goal.returns-clause-answer
returns-clause-answer g c honest =
    let x = bytes_in c.args.region c.args.paged.now.device.content in
    let own = no_fault c.argument_fault.result c.in_default.not-Some ∙ c.argument_fault.ensures in
    answered x c.args.name.now c.args.kind c.args.hash c.args.spot _ c.find_room.result (c.wanted_of.ensures c.args.kind [] refl) (c.find_room.ensures.answer honest) own

pub returns-clause-exact : goal.returns-clause-exact
returns-clause-exact g c honest =
    let x = bytes_in c.args.region c.args.paged.now.device.content in
    exact_result x c.args.name.now c.args.kind c.args.hash c.args.spot _ c.find_room.result (c.wanted_of.ensures c.args.kind [] refl) (c.find_room.ensures.answer honest)
