use Rattle.cbfs_walk.proofs.Shapes.{shaped_step}
use Rattle.cbfs_walk.proofs.laws.readings_take_steps.Goals as goal

pub returns : goal.returns
returns g c = shaped_step
