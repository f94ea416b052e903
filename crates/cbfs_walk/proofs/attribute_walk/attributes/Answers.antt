use Rattle.cbfs_walk.proofs.AttributeLists.{walk_all}
use Rattle.cbfs_walk.proofs.attribute_walk.attributes.Goals as goal

pub returns-clause-all : goal.returns-clause-all
returns-clause-all c = λ x stands used. rw (c.min.ensures, c.name_end.ensures) (walk_all x c.args.cell.now stands used)
