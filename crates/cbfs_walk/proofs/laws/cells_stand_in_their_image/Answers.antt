use Rattle.cbfs_walk.proofs.CutLaws.{cells_stand}
use Rattle.cbfs_walk.proofs.laws.cells_stand_in_their_image.Goals as goal

pub returns : goal.returns
returns c = cells_stand
