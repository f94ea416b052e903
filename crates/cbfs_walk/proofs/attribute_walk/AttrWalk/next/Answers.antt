use Rattle.std.proofs.Common.{ap, ◌+◌}
use Rattle.cbfs_walk.specs.declared.attribute_walk.AttributeItem.TheVariants as listed
use Rattle.cbfs_walk.proofs.AttributeLists.{walk_step, gives_none}
use Rattle.cbfs_walk.proofs.attribute_walk.AttrWalk.next.Goals as goal

pub returns-in-Attribute-clause-list : goal.returns-in-Attribute-clause-list
returns-in-Attribute-clause-list g c = λ h all left.
    let told = rw c.in-Attribute.is at (c.in_ok-head.ensures.listed h) in
    walk_step c.args.region c.args.paged.now.device.content c.args.self.now.cell c.args.self.now.at _ _ (listed.Attribute c.in-Attribute.head) c.requires.region.inside c.requires.inside (ap (λ n. c.args.self.now.cell.at + n) c.from.ensures) (ap (λ n. c.args.self.now.cell.at + n) c.from-2.ensures) told all left

pub returns-in_default-clause-list : goal.returns-in_default-clause-list
returns-in_default-clause-list g c = λ h all left.
    gives_none _ c.args.self.now.cell c.args.self.now.at all c.in_ok-head.field-0 c.in_default.not-Attribute (walk_step c.args.region c.args.paged.now.device.content c.args.self.now.cell c.args.self.now.at _ _ c.in_ok-head.field-0 c.requires.region.inside c.requires.inside (ap (λ n. c.args.self.now.cell.at + n) c.from.ensures) (ap (λ n. c.args.self.now.cell.at + n) c.from-2.ensures) (c.in_ok-head.ensures.listed h) all left)
