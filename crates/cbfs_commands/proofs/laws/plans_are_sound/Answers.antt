use Rattle.cbfs_commands.proofs.CreatedRegions.{plans_laid}
use Rattle.cbfs_commands.proofs.laws.plans_are_sound.Goals as goal

pub returns : goal.returns
returns c = plans_laid
