use Rattle.cbfs_walk.proofs.CutLaws.{walks_follow}
use Rattle.cbfs_walk.proofs.laws.walks_follow_the_cut.Goals as goal

pub returns : goal.returns
returns c = walks_follow
